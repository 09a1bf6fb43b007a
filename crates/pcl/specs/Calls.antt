-- The calls at a unit, on the lent cells: the answer and every cell. "Order: 9, 7, 1, 2, 3, then the rest."
-- Assumes nothing.
use Rattle.std.specs.Prelude.{not, List, ℕ, leb, Result, Ok, Err}
use Rattle.accesses.specs.Reading.{unit_read}
use Rattle.accesses.specs.Writing.{unit_written, unit_byte_written, unit_reset}
use Rattle.cells.specs.Layout.{count_in}
use Rattle.cells.specs.Ranges.{in_range}
use Rattle.laws.specs.Pick.{pick}
use Rattle.moves.specs.Periods.{unit_period}
use Rattle.words.specs.declared.answers.Refusal.{Refusal}
use Rattle.words.specs.declared.answers.Write.{Write}

-- before all else at a unit: 9 where the lent state is out of range, 1 where the unit is not fitted
abbrev pub admitted : {A : Type 0} → List ℕ → ℕ → A → A → A → A
admitted cells unit bad_state no_unit rest = pick (not (in_range cells)) bad_state (pick (leb (count_in cells) unit) no_unit rest)

-- a call at a unit: both leave every cell
abbrev pub at_unit : {A : Type 0} → List ℕ → ℕ → A → A → A × List ℕ → A × List ℕ
at_unit cells unit bad_state no_unit rest = admitted cells unit (bad_state, cells) (no_unit, cells) rest

abbrev pub read_by : Result ℕ Refusal × List ℕ → Result ℕ Refusal × List ℕ
read_by p = (p.0, p.1)

-- word read
abbrev pub read_call : List ℕ → ℕ → ℕ → Result ℕ Refusal × List ℕ
read_call cells unit offset = at_unit cells unit (Err Refusal.BadState) (Err Refusal.NoUnit) (read_by (unit_read cells unit offset))

abbrev pub written_by : Result Write Refusal × List ℕ → Result Write Refusal × List ℕ
written_by p = (p.0, p.1)

-- word write
abbrev pub write_call : List ℕ → ℕ → ℕ → ℕ → Result Write Refusal × List ℕ
write_call cells unit offset word = at_unit cells unit (Err Refusal.BadState) (Err Refusal.NoUnit) (written_by (unit_written cells unit offset word))

-- byte write
abbrev pub byte_call : List ℕ → ℕ → ℕ → ℕ → Result Write Refusal × List ℕ
byte_call cells unit offset byte = at_unit cells unit (Err Refusal.BadState) (Err Refusal.NoUnit) (written_by (unit_byte_written cells unit offset byte))

-- reset (unit)
abbrev pub reset_call : List ℕ → ℕ → Result (Unit {0}) Refusal × List ℕ
reset_call cells unit = at_unit cells unit (Err Refusal.BadState) (Err Refusal.NoUnit) (Ok tt, unit_reset cells unit)

-- period (unit)
abbrev pub period_call : List ℕ → ℕ → Result (Unit {0}) Refusal × List ℕ
period_call cells unit = at_unit cells unit (Err Refusal.BadState) (Err Refusal.NoUnit) (Ok tt, unit_period cells unit)
