-- An access to the registers of one side of a unit, whichever side it is: the side out of its window, the rule, and the side put back where
-- the rule changes it.
-- Assumes nothing.
use Rattle.std.specs.Prelude.{Bool, List, ℕ, ◌+◌}
use Rattle.cells.specs.Layout.{unit_place}
use Rattle.codec.specs.Window.{window, splice}
use Rattle.ends.specs.declared.sides.Answered.{Answered}
use Rattle.laws.specs.Pick.{pick}

-- the side that the window at a place of the unit's block holds
abbrev pub found : {S : Type 0} → (List ℕ → S) → ℕ → ℕ → List ℕ → ℕ → S
found decoded place size cells unit = decoded (window cells (unit_place unit + place) size)

-- the answer, and the cells with the side put back where it changed
abbrev pub accessed : {S A : Type 0} → (List ℕ → S → List ℕ) → ℕ → ℕ → List ℕ → ℕ → Bool → Answered S A → A × List ℕ
accessed encoded place size cells unit changes a =
    pick changes (a.answer, splice cells (unit_place unit + place) (encoded (window cells (unit_place unit + place) size) a.side)) (a.answer, cells)
