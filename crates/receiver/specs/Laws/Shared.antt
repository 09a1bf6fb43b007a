-- What both sides do (`ends`, the trait `Side`), at a receiver: it is what the definitions of this crate say.
-- Assumes nothing.
use Rattle.std.specs.Prelude.{true, ◌&&◌, ◌≡◌, refl}
use Rattle.ends.specs.Ends as E
use Rattle.laws.specs.Pick.{pick}
use Rattle.receiver.specs.Fields.{with_time_out}
use Rattle.receiver.specs.Groups.{with_end, with_faults}
use Rattle.receiver.specs.Periods.{period_passed}
use Rattle.receiver.specs.Requests.{requested, settled, failed}
use Rattle.receiver.specs.declared.side.Faults.{Faults}
use Rattle.receiver.specs.declared.side.Receiver.{Receiver}

pub fails : (r : Receiver) (faults : Faults) → settled (requested (with_faults r faults)) ≡ failed r faults
fails r faults = refl

pub passes_period : (r : Receiver)
    → pick (r.end.mark && r.end.opened) (settled (requested (with_faults r (with_time_out r.faults true))))
    (settled (with_end r (E.with_mark r.end true)))
    ≡ period_passed r
passes_period r = refl
