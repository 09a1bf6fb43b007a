-- What holds of every case of a call holds of the call.
-- Assumes nothing.
use Rattle.std.specs.Prelude.{true, false, not, List, ◌≡◌, ℕ, ◌<◌, leb, ltb, eqb, length, Result, Ok, Err, Option}
use Rattle.std.proofs.Common.{leb-false}
use Rattle.std.proofs.lemmas.Bool.{not-false}
use Rattle.bus.specs.Slice.{slice_passed}
use Rattle.cells.specs.Layout.{count_in, memory_length}
use Rattle.cells.specs.Ranges.{in_range}
use Rattle.fitting.specs.Fit.{fit}
use Rattle.fitting.specs.SetUp.{count_of, set_up_good}
use Rattle.laws.specs.Pick.{either}
use Rattle.moves.specs.Moving.{transmitter_moved, receiver_moved}
use Rattle.pcl.specs.Calls.{admitted}
use Rattle.pcl.specs.Link.{room_for, fit_call, passed_by, slice_call}
use Rattle.pcl.specs.Sides.{sent_by, received_by, move_call}
use Rattle.words.specs.declared.answers.Refusal.{Refusal}
use Rattle.bus.specs.declared.slice.Given.{Given}

module _ (cells : List ℕ) where
  pub admitted_cases : {A : Type 0} (P : A → Type 0) (unit : ℕ) (bad_state no_unit rest : A) → P bad_state → P no_unit
      → (in_range cells ≡ true → unit < count_in cells → P rest) → P (admitted cells unit bad_state no_unit rest)
  admitted_cases P unit bad_state no_unit rest bad none goes =
      either P (not (in_range cells)) (λ e. bad)
      (λ inside. either P (leb (count_in cells) unit) (λ e. none)
      (λ some. goes (not-false (in_range cells) inside) (leb-false (count_in cells) unit some)))

  pub slice_cases : (P : Result (Option Given) Refusal × List ℕ → Type 0) (mask parity : ℕ) → P (Err Refusal.BadState, cells) → P (Err Refusal.BadMask, cells)
      → (in_range cells ≡ true → P (passed_by (slice_passed cells mask (eqb parity 1)))) → P (slice_call cells mask parity)
  slice_cases P mask parity bad masked passes =
      either P (not (in_range cells)) (λ e. bad)
      (λ inside. either P (ltb 1 parity) (λ e. masked) (λ e. passes (not-false (in_range cells) inside)))

  pub fit_cases : (P : Result (Unit {0}) Refusal × List ℕ → Type 0) (setup : List ℕ) → P (Err Refusal.NoRoom, cells) → P (Err Refusal.BadSetUp, cells)
      → (ltb (length cells) (room_for (count_of setup)) ≡ false → set_up_good setup ≡ true → P (Ok tt, fit cells setup)) → P (fit_call cells setup)
  fit_cases P setup short bad done =
      either P (ltb (length cells) (room_for (count_of setup))) (λ e. short)
      (λ enough. either P (not (set_up_good setup)) (λ e. bad) (λ kept. done enough (not-false (set_up_good setup) kept)))

  pub move_cases : (P : Result (Option ℕ) Refusal × List ℕ × List ℕ → Type 0) (memory : List ℕ) (unit side : ℕ)
      → P (Err Refusal.BadState, cells, memory) → P (Err Refusal.NoUnit, cells, memory)
      → (in_range cells ≡ true → unit < count_in cells → P (sent_by memory (transmitter_moved cells memory unit)))
      → (in_range cells ≡ true → unit < count_in cells → P (received_by (receiver_moved cells memory unit)))
      → P (move_call cells memory unit side)
  move_cases P memory unit side bad none sent received =
      admitted_cases P unit _ _ _ bad none
      (λ ok there.
      either P (ltb (length memory) (memory_length cells unit)) (λ e. bad)
      (λ e. either P (eqb side 0) (λ e. sent ok there) (λ e. either P (eqb side 1) (λ e. received ok there) (λ e. none))))
