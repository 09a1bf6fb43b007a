-- A total as the code has it, 51 for any above 50, and the true sum.
-- Assumes nothing.
use Rattle.std.specs.Prelude.{true, false, ◌≡◌, ℕ, ◌≤◌, ◌<◌, ltb}
use Rattle.std.proofs.Common.{sym, arith, lt-ltb, le-ltb, ltb-false}
use Rattle.laws.specs.Pick.{by}
use Rattle.shares.specs.Refusals.{wrong_total, up_to51}
use Rattle.shares.specs.Laws.Counting.{not_left, not_right}

module _ (sum seen : ℕ) (e : seen ≡ up_to51 sum) where
  same_sum : seen ≤ 50 → sum ≡ seen
  same_sum h = by (ltb 50 sum) (λ t. absurd (omega (arith, rw t at e))) (λ t. sym (rw t at e))

  pub too_few : seen < 20 → wrong_total sum ≡ true
  too_few h = rw (lt-ltb sum 20 (omega (arith, same_sum (omega arith))))

  pub too_many : 50 < seen → wrong_total sum ≡ true
  too_many h =
      by (ltb 50 sum) (λ t. by (ltb sum 20) (λ s. rw s) (λ s. rw (s, t))) (λ t. absurd (omega (arith, rw t at e, ltb-false 50 sum t)))

  pub true_sum : 20 ≤ seen → seen ≤ 50 → (sum ≡ seen) × (wrong_total sum ≡ false)
  true_sum least most =
      let same = same_sum most in
      (same, rw (le-ltb sum 20 (omega arith), le-ltb 50 sum (omega arith)))

-- a total that is not refused
pub right_total : (sum : ℕ) → wrong_total sum ≡ false → (20 ≤ sum) × (sum ≤ 50)
right_total sum e = (ltb-false sum 20 (not_left (ltb sum 20) (ltb 50 sum) e), ltb-false 50 sum (not_right (ltb sum 20) (ltb 50 sum) e))

pub not_wrong : (sum : ℕ) → 20 ≤ sum → sum ≤ 50 → wrong_total sum ≡ false
not_wrong sum least most = rw (le-ltb sum 20 least, le-ltb 50 sum most)
