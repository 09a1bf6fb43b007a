-- Document 01, Memory moves and periods: "A period call on .. open receiver sets a mark; with the mark standing, TIM OUT."
-- Assumes nothing.
use Rattle.std.specs.Prelude.{true, ◌&&◌}
use Rattle.laws.specs.Pick.{pick}
use Rattle.receiver.specs.Fields.{with_time_out}
use Rattle.receiver.specs.Groups.{with_mark}
use Rattle.receiver.specs.Requests.{settled, failed}
use Rattle.receiver.specs.declared.side.Receiver.{Receiver}

-- "A word accepted, or not being busy, clears it": the mark that is set on a receiver not open settles to none, whatever RCV WD is. TIM
-- OUT does not use the mark up (reading 31), and closes nothing at once (reading 28).
abbrev pub period_passed : Receiver → Receiver
period_passed r = pick (r.end.mark && r.end.opened) (failed r (with_time_out r.faults true)) (settled (with_mark r true))
