-- "Fit gives every side its initial state": what a fit of a good set-up leaves, whatever the lent cells held before.
-- Assumes nothing.
use Rattle.std.specs.Prelude.{true, List, [], ◌∷◌, ◌≡◌}
use Rattle.std.proofs.Math.Logic.{⊎_elim}
use Rattle.std.proofs.Common.{◌∙◌, le_of_suc-le-suc, not-suc-le-zero, eq-or-lt_of_le}
use Prim.Native.Nat.{ℕ, zero, suc, ◌+◌, ◌≤◌, ◌<◌}
use native.Mathlib.Omega.{arith}
use Rattle.std.proofs.Math.ListN.{length}
use Rattle.cells.specs.Index.{row, looked_through}
use Rattle.cells.specs.Layout.{count_in, holder_in, unit_place}
use Rattle.cells.proofs.Laws.IndexLaws.{count_filled, holder_filled, index_fits, length_filled, length_row}
use Rattle.codec.specs.Laws.WindowLaws.{length_splice, cell_inside}
use Rattle.fitting.specs.Fit.{units_fitted, headed, fit}
use Rattle.fitting.specs.SetUp.{number_of, count_of, set_up_good}
use Rattle.fitting.specs.Laws.SetUpLaws.{Good, good_says}
use Rattle.frames.specs.Laws.Fits.{fitted_length, headed_ranged}
use Rattle.frames.specs.Laws.Started.{Started, block_past, same_then, started_again, before_own, started}

module _ (setup cells : List ℕ) (ok : set_up_good setup ≡ true) (room : unit_place (count_of setup) ≤ length cells) where
  good : Good setup
  good = good_says setup ok

  -- the first n units
  each_started : (n : ℕ) → n ≤ count_of setup → (k : ℕ) → k < n → Started setup k (units_fitted n setup cells)
  unfolding units_fitted
  each_started zero h k below = absurd (not-suc-le-zero below)
  each_started (suc n) h k below =
      let now = units_fitted n setup cells in
      let l : length now ≡ length cells = fitted_length setup cells ok room n (omega arith) in
      let fits : unit_place n + 202 ≤ length now = omega arith in
      ⊎_elim (λ (q : k ≡ n). rw q (started setup now n (good.units n h) fits))
      (λ (less : k < n). started_again (before_own setup now n (good.units n h) fits k (omega arith)) (each_started n (omega arith) k less))
      (eq-or-lt_of_le (le_of_suc-le-suc below))

  units_length : length (units_fitted (count_of setup) setup cells) ≡ length cells
  units_length = fitted_length setup cells ok room (count_of setup) (omega arith)

  -- the header
  header_fits : 0 + 2 ≤ length (units_fitted (count_of setup) setup cells)
  header_fits = omega (arith, units_length)

  headed_length : length (headed cells setup) ≡ length cells
  headed_length = length_splice (units_fitted (count_of setup) setup cells) 0 (count_of setup ∷ 0 ∷ []) header_fits ∙ units_length

  pub fit_length : length (fit cells setup) ≡ length cells
  fit_length = length_filled (headed cells setup) (headed_ranged setup cells ok room) ∙ headed_length

  pub fit_count : count_in (fit cells setup) ≡ count_of setup
  fit_count = count_filled (headed cells setup) (headed_ranged setup cells ok room) ∙ cell_inside (units_fitted (count_of setup) setup cells) 0 (count_of setup ∷ 0 ∷ []) header_fits 0 (omega arith)

  pub fit_holder : holder_in (fit cells setup) ≡ 0
  fit_holder = holder_filled (headed cells setup) (headed_ranged setup cells ok room) ∙ cell_inside (units_fitted (count_of setup) setup cells) 0 (count_of setup ∷ 0 ∷ []) header_fits 1 (omega arith)

  pub fit_started : (k : ℕ) → k < count_of setup → Started setup k (fit cells setup)
  fit_started k below =
      let h = headed cells setup in
      let r = headed_ranged setup cells ok room in
      started_again
      (same_then
      (block_past (units_fitted (count_of setup) setup cells) 0 (count_of setup ∷ 0 ∷ []) header_fits k (omega arith) (omega (arith, units_length)))
      (block_past h 2 (row (looked_through h) 64 0) (index_fits h r) k (omega (arith, length_row (looked_through h) 64 0)) (omega (arith, headed_length))))
      (each_started (count_of setup) (omega arith) k below)
