-- Document 01, Memory moves and periods: a period call names a unit, and passes at its transmitter and at its receiver,
-- each with a mark of its own (reading 31).
-- Assumes nothing.
use Rattle.std.specs.Prelude.{List, ℕ}
use Rattle.cells.specs.Fitted.{transmitter_of, receiver_of, put_transmitter, put_receiver}
use Rattle.laws.specs.Pick.{pick}
use Rattle.receiver.specs.Periods as R
use Rattle.transmitter.specs.Periods as T
use Rattle.transmitter.specs.Side.{is_busy}

-- "A period call on a BUSY transmitter ..": any other stays as it was
abbrev pub transmitter_period : List ℕ → ℕ → List ℕ
transmitter_period cells unit =
    pick (is_busy (transmitter_of cells unit)) (put_transmitter cells unit (T.period_passed (transmitter_of cells unit))) cells

-- ".. or open receiver": any other stays as it was
abbrev pub receiver_period : List ℕ → ℕ → List ℕ
receiver_period cells unit =
    pick (receiver_of cells unit).end.opened (put_receiver cells unit (R.period_passed (receiver_of cells unit))) cells

abbrev pub unit_period : List ℕ → ℕ → List ℕ
unit_period cells unit = receiver_period (transmitter_period cells unit) unit
