-- "The ranges of 9 are proved to take in the unfitted state, what a fit answered 0 leaves, and what any call leaves from a state in them."
-- A level leaves the state as it is: it is lent the cells to read alone.
-- Assumes nothing.
use Rattle.std.specs.Prelude.{true, List, ◌≡◌, ℕ, ◌^◌, ◌≤◌, ◌<◌, eqb, replicate, Result}
use Rattle.std.proofs.Common.{arith}
use Rattle.cells.specs.Laws.RangeLaws.{unfitted}
use Rattle.cells.specs.Ranges.{in_range}
use Rattle.frames.specs.Laws.Moves.{transmitter_move, receiver_move}
use Rattle.frames.specs.Laws.Passed.{slice_leaves}
use Rattle.frames.specs.Laws.Reads.{read_leaves}
use Rattle.frames.specs.Laws.Resets.{reset_leaves, period_leaves}
use Rattle.frames.specs.Laws.Writes.{write_leaves, byte_leaves}
use Rattle.pcl.specs.Calls.{read_call, write_call, byte_call, reset_call, period_call}
use Rattle.pcl.specs.Link.{fit_call, slice_call}
use Rattle.pcl.specs.Numbers.{fit_number}
use Rattle.pcl.specs.Sides.{move_call}
use Rattle.pcl.specs.Laws.Cases.{admitted_cases, fit_cases, slice_cases, move_cases}
use Rattle.outcomes.specs.Laws.FitRanged.{room_ranged}
use Rattle.words.specs.declared.answers.Refusal.{Refusal}

-- the unfitted state is all zero
pub unfitted_ranged : (n : ℕ) → 66 ≤ n → in_range (replicate n 0) ≡ true
unfitted_ranged = unfitted

-- "what a fit answered 0 leaves", whatever was lent
abbrev FitRanged : Result (Unit {0}) Refusal × List ℕ → Type 0
FitRanged outcome = fit_number outcome.0 ≡ 0 → in_range outcome.1 ≡ true

pub fit_ranges : (cells setup : List ℕ) → FitRanged (fit_call cells setup)
fit_ranges cells setup =
    fit_cases cells FitRanged setup (λ d. absurd (omega (arith, d))) (λ d. absurd (omega (arith, d))) (λ enough good d. room_ranged cells setup good enough)

-- "what any call leaves from a state in them"
abbrev Ranged : {A : Type 0} → A × List ℕ → Type 0
Ranged outcome = in_range outcome.1 ≡ true

abbrev BothRanged : {A : Type 0} → A × List ℕ × List ℕ → Type 0
BothRanged outcome = in_range outcome.1 ≡ true

module _ (cells : List ℕ) (ok : in_range cells ≡ true) where
  pub read_ranges : (unit offset : ℕ) → Ranged (read_call cells unit offset)
  read_ranges unit offset = admitted_cases cells Ranged unit _ _ _ ok ok (λ ok there. (read_leaves cells ok unit there offset).ranged)

  pub write_ranges : (unit offset word : ℕ) → word < 2 ^ 16 → Ranged (write_call cells unit offset word)
  write_ranges unit offset word h = admitted_cases cells Ranged unit _ _ _ ok ok (λ ok there. (write_leaves cells ok unit there offset word h).ranged)

  pub byte_ranges : (unit offset byte : ℕ) → byte < 2 ^ 8 → Ranged (byte_call cells unit offset byte)
  byte_ranges unit offset byte h = admitted_cases cells Ranged unit _ _ _ ok ok (λ ok there. (byte_leaves cells ok unit there offset byte h).ranged)

  pub reset_ranges : (unit : ℕ) → Ranged (reset_call cells unit)
  reset_ranges unit = admitted_cases cells Ranged unit _ _ _ ok ok (λ ok there. (reset_leaves cells ok unit there).ranged)

  pub period_ranges : (unit : ℕ) → Ranged (period_call cells unit)
  period_ranges unit = admitted_cases cells Ranged unit _ _ _ ok ok (λ ok there. (period_leaves cells ok unit there).ranged)

  pub slice_ranges : (mask parity : ℕ) → Ranged (slice_call cells mask parity)
  slice_ranges mask parity = slice_cases cells Ranged mask parity ok ok (λ ok. (slice_leaves cells ok mask (eqb parity 1)).ranged)

  pub move_ranges : (memory : List ℕ) (unit side : ℕ) → BothRanged (move_call cells memory unit side)
  move_ranges memory unit side =
      move_cases cells BothRanged memory unit side ok ok (λ ok there. (transmitter_move cells ok memory unit there).ranged)
      (λ ok there. (receiver_move cells ok memory unit there).ranged)

  pub fit_keeps_ranges : (setup : List ℕ) → Ranged (fit_call cells setup)
  fit_keeps_ranges setup = fit_cases cells Ranged setup ok ok (λ enough good. room_ranged cells setup good enough)
