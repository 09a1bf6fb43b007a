-- Document 01, Memory moves and periods: "A period call on a BUSY transmitter .. sets a mark; with the mark standing, TIM OUT."
-- Assumes nothing.
use Rattle.std.specs.Prelude.{true, ◌&&◌}
use Rattle.laws.specs.Pick.{pick}
use Rattle.transmitter.specs.Fields.{with_time_out}
use Rattle.transmitter.specs.Groups.{with_mark}
use Rattle.transmitter.specs.Requests.{settled, failed}
use Rattle.transmitter.specs.Side.{is_busy}
use Rattle.transmitter.specs.declared.side.Transmitter.{Transmitter}

-- "A word accepted, or not being busy, clears it": the mark that is set on a transmitter not BUSY settles to none. TIM OUT does not use
-- the mark up (reading 31), and closes nothing at once (reading 28).
abbrev pub period_passed : Transmitter → Transmitter
period_passed t = pick (t.end.mark && is_busy t) (failed t (with_time_out t.faults true)) (settled (with_mark t true))
