-- The calls on the whole link: fit (set-up) and slice.
-- Assumes nothing.
use Rattle.std.specs.Prelude.{not, List, ℕ, ltb, eqb, length, Option, Result, Ok, Err}
use Rattle.bus.specs.Slice.{slice_passed}
use Rattle.bus.specs.declared.slice.Given.{Given}
use Rattle.cells.specs.Layout.{unit_place}
use Rattle.cells.specs.Ranges.{in_range}
use Rattle.fitting.specs.Fit as F
use Rattle.fitting.specs.SetUp.{count_of, set_up_good}
use Rattle.laws.specs.Pick.{pick}
use Rattle.words.specs.declared.answers.Refusal.{Refusal}

-- "The room asked depends on count .. alone": it counts at most 16 units (reading 32)
abbrev pub room_for : ℕ → ℕ
room_for count = pick (ltb 16 count) (unit_place 16) (unit_place count)

-- 9 "lent room too small", 7 "set-up breaks a rule above", and then it is done. So a set-up of no unit, or of 17 or more that is lent the
-- room of 16, answers 7 (reading 32). The state that a fit is lent is not looked at.
abbrev pub fit_call : List ℕ → List ℕ → Result (Unit {0}) Refusal × List ℕ
fit_call cells setup =
    pick (ltb (length cells) (room_for (count_of setup))) (Err Refusal.NoRoom, cells)
    (pick (not (set_up_good setup)) (Err Refusal.BadSetUp, cells) (Ok tt, F.fit cells setup))

-- 9 "a lent state outside the ranges", 7 "parity mask above 1", and then the slice, with a damage mask over 16 data lines and parity.
-- Before any fit it answers 8 (reading 20).
abbrev pub passed_by : Option Given × List ℕ → Result (Option Given) Refusal × List ℕ
passed_by p = (Ok p.0, p.1)

abbrev pub slice_call : List ℕ → ℕ → ℕ → Result (Option Given) Refusal × List ℕ
slice_call cells mask parity =
    pick (not (in_range cells)) (Err Refusal.BadState, cells)
    (pick (ltb 1 parity) (Err Refusal.BadMask, cells) (passed_by (slice_passed cells mask (eqb parity 1))))
