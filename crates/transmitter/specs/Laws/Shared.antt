-- What both sides do (`ends`, the trait `Side`), at a transmitter: it is what the definitions of this crate say.
-- Assumes nothing.
use Rattle.std.specs.Prelude.{true, ◌&&◌, ◌≡◌, refl}
use Rattle.ends.specs.Ends as E
use Rattle.laws.specs.Pick.{pick}
use Rattle.transmitter.specs.Fields.{with_time_out}
use Rattle.transmitter.specs.Groups.{with_end, with_faults}
use Rattle.transmitter.specs.Periods.{period_passed}
use Rattle.transmitter.specs.Requests.{requested, settled, failed}
use Rattle.transmitter.specs.Side.{is_busy}
use Rattle.transmitter.specs.declared.side.Faults.{Faults}
use Rattle.transmitter.specs.declared.side.Transmitter.{Transmitter}

pub fails : (t : Transmitter) (faults : Faults) → settled (requested (with_faults t faults)) ≡ failed t faults
fails t faults = refl

pub passes_period : (t : Transmitter)
    → pick (t.end.mark && is_busy t) (settled (requested (with_faults t (with_time_out t.faults true))))
    (settled (with_end t (E.with_mark t.end true)))
    ≡ period_passed t
passes_period t = refl
