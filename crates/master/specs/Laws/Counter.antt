-- The counter's cycle: its length, what a step of the counter does to it, and which address stands where.
-- Assumes nothing.
use Rattle.std.specs.Prelude.{[], ◌∷◌, ◌++◌, ◌≡◌, refl, ℕ, zero, suc, ◌+◌, ◌-◌, ◌≤◌, ◌<◌, leb, ltb, length, get_or}
use Rattle.std.proofs.Common.{append_assoc, append-nil, ap, sym, ◌∙◌, not-suc-le-zero, le_of_suc-le-suc, suc-add, sub-one, length-append, get_or-append-add}
use Rattle.std.proofs.Math.Nat.{sub-zero}
use native.Mathlib.Omega.{arith}
use borrow.Author.Tests.{leb-true, leb-false, ltb-true, ltb-false}
use Rattle.std.proofs.Math.ListN.{get_or-append}
use Rattle.laws.specs.Pick.{by}
use Rattle.master.specs.Cycle.{down, counter_cycle}
use Rattle.master.specs.Laws.Rotation.{rotated, Among}
use Rattle.master.specs.Section.{counted_down}

-- ---- a row of addresses

length_down : (n a : ℕ) → length (down n a) ≡ n
unfolding down
length_down zero a = refl
length_down (suc n) a = ap suc (length_down n (a - 1))

down_first : (n a : ℕ) → 1 ≤ n → down n a ≡ a ∷ down (n - 1) (a - 1)
unfolding down
down_first zero a h = absurd (not-suc-le-zero h)
down_first (suc n) a h = rw (sub-one (suc n))

down_last : (n a : ℕ) → down (n + 1) a ≡ down n a ++ ((a - n) ∷ [])
unfolding down
down_last zero a = rw sub-zero
down_last (suc n) a = let e : a - 1 - n ≡ a - suc n = omega arith in rw (suc-add, down_last n (a - 1), e)

down_at : (n a k : ℕ) → k < n → get_or (down n a) k 0 ≡ a - k
unfolding down
down_at zero a k h = absurd (not-suc-le-zero h)
down_at (suc n) a zero h = sym (sub-zero a)
down_at (suc n) a (suc k) h = let e : a - 1 - k ≡ a - suc k = omega arith in down_at n (a - 1) k (le_of_suc-le-suc h) ∙ e

-- ---- the cycle

module _ (p s : ℕ) (least : 1 ≤ p) (most : p ≤ s) where
  pub length_counter : length (counter_cycle p s) ≡ s
  length_counter = simp (length-append, length_down) (omega arith)

  -- the place of the counter comes first
  pub counter_first : p ≡ get_or (counter_cycle p s) 0 0
  counter_first = rw (down_first p p least)

  counter_rotated : rotated (counter_cycle p s) ≡ down (p - 1) (p - 1) ++ down (s - p + 1) s
  counter_rotated =
      let e : s - (s - p) ≡ p = omega arith in
      rw (down_first p p least, down_last (s - p) s, e) (append_assoc (down (p - 1) (p - 1)) (down (s - p) s) (p ∷ []))

  -- a step of the counter turns it
  pub counter_turns : counter_cycle (counted_down p s) s ≡ rotated (counter_cycle p s)
  unfolding down
  counter_turns =
      rw counter_rotated
      (by (leb p 1)
      (λ e.
      let one : p ≡ 1 = omega (arith, leb-true p 1 e) in
      let none : s - s ≡ 0 = omega arith in
      let all : s - p + 1 ≡ s = omega arith in
      rw (e, none, all, one) (append-nil (down s s)))
      (λ e. let more : s - (p - 1) ≡ s - p + 1 = omega (arith, leb-false p 1 e) in rw (e, more)))

  before_one : (k : ℕ) → k < p → get_or (counter_cycle p s) k 0 ≡ p - k
  before_one k h = get_or-append (down p p) (down (s - p) s) 0 k (rw length_down h) ∙ down_at p p k h

  after_one : (k : ℕ) → p ≤ k → k < s → get_or (counter_cycle p s) k 0 ≡ s + p - k
  after_one k h l =
      let at : length (down p p) + (k - p) ≡ k = rw length_down (omega arith) in
      let e : s - (k - p) ≡ s + p - k = omega arith in
      (rw at at (get_or-append-add (down p p) (down (s - p) s) (k - p) 0)) ∙ down_at (s - p) s (k - p) (omega arith) ∙ e

  -- each address from 1 to the switch stands in it
  pub counter_has : (a : ℕ) → 1 ≤ a → a ≤ s → Among a (counter_cycle p s)
  counter_has a low high =
      by (leb a p)
      (λ e.
      let h = leb-true a p e in
      let d : p - (p - a) ≡ a = omega arith in
      (p - a, rw length_counter (omega arith), before_one (p - a) (omega arith) ∙ d))
      (λ e.
      let h = leb-false a p e in
      let d : s + p - (s + p - a) ≡ a = omega arith in
      (s + p - a, rw length_counter (omega arith), after_one (s + p - a) (omega arith) (omega arith) ∙ d))

  -- once
  pub counter_once : (j k : ℕ) → j < s → k < s → get_or (counter_cycle p s) j 0 ≡ get_or (counter_cycle p s) k 0 → j ≡ k
  counter_once j k hj hk e =
      by (ltb j p)
      (λ tj.
      let lj = ltb-true j p tj in
      by (ltb k p) (λ tk. let lk = ltb-true k p tk in omega (arith, before_one j lj, before_one k lk))
      (λ tk. let lk = ltb-false k p tk in omega (arith, before_one j lj, after_one k lk hk)))
      (λ tj.
      let lj = ltb-false j p tj in
      by (ltb k p) (λ tk. let lk = ltb-true k p tk in omega (arith, after_one j lj hj, before_one k lk))
      (λ tk. let lk = ltb-false k p tk in omega (arith, after_one j lj hj, after_one k lk hk)))
