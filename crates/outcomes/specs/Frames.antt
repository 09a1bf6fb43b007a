-- Which units a call can change at all: a call at a unit leaves every cell of every other unit, whatever the cells hold. (What it leaves of
-- the unit's own sides, and what a slice leaves of all, is in `frames`.)
-- Assumes nothing.
use Rattle.std.specs.Prelude.{List, ◌≡◌, refl, ℕ, ◌+◌, ◌^◌, ◌<◌}
use Rattle.cells.specs.Layout.{count_in, unit_place}
use Rattle.codec.specs.Window.{cell}
use Rattle.frames.specs.Laws.Moves.{transmitter_move, receiver_move}
use Rattle.frames.specs.Laws.Reads.{read_leaves}
use Rattle.frames.specs.Laws.Resets.{reset_leaves, period_leaves}
use Rattle.frames.specs.Laws.Writes.{write_leaves, byte_leaves}
use Rattle.pcl.specs.Calls.{read_call, write_call, byte_call, reset_call, period_call}
use Rattle.pcl.specs.Sides.{move_call}
use Rattle.pcl.specs.Laws.Cases.{admitted_cases, move_cases}

-- every cell of every other unit is as it was
abbrev pub OthersStay : List ℕ → ℕ → List ℕ → Type 0
OthersStay cells unit after =
    (k : ℕ) → k < count_in cells → (k ≡ unit → ⊥) → (j : ℕ) → j < 202 → cell after (unit_place k + j) ≡ cell cells (unit_place k + j)

module _ (cells : List ℕ) (unit : ℕ) where
  abbrev Others : {A : Type 0} → A × List ℕ → Type 0
  Others outcome = OthersStay cells unit outcome.1

  abbrev MoveOthers : {A : Type 0} → A × List ℕ × List ℕ → Type 0
  MoveOthers outcome = OthersStay cells unit outcome.1

  -- what leaves all leaves the others
  same : OthersStay cells unit cells
  same k there apart j h = refl

  pub read_frame : (offset : ℕ) → Others (read_call cells unit offset)
  read_frame offset = admitted_cases cells Others unit _ _ _ same same (λ ok there. (read_leaves cells ok unit there offset).others)

  pub write_frame : (offset word : ℕ) → word < 2 ^ 16 → Others (write_call cells unit offset word)
  write_frame offset word h = admitted_cases cells Others unit _ _ _ same same (λ ok there. (write_leaves cells ok unit there offset word h).others)

  pub byte_frame : (offset byte : ℕ) → byte < 2 ^ 8 → Others (byte_call cells unit offset byte)
  byte_frame offset byte h = admitted_cases cells Others unit _ _ _ same same (λ ok there. (byte_leaves cells ok unit there offset byte h).others)

  pub reset_frame : Others (reset_call cells unit)
  reset_frame = admitted_cases cells Others unit _ _ _ same same (λ ok there. (reset_leaves cells ok unit there).others)

  pub period_frame : Others (period_call cells unit)
  period_frame = admitted_cases cells Others unit _ _ _ same same (λ ok there. (period_leaves cells ok unit there).others)

  pub move_frame : (memory : List ℕ) (side : ℕ) → MoveOthers (move_call cells memory unit side)
  move_frame memory side =
      move_cases cells MoveOthers memory unit side same same (λ ok there. (transmitter_move cells ok memory unit there).others)
      (λ ok there. (receiver_move cells ok memory unit there).others)
