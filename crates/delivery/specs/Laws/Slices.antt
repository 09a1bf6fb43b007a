-- A message of n words, one word a slice, a CRC after each 128 words and one after the last: how many slices it takes.
-- `left` is how many are still to come. It falls by one in each slice (`falls`), and all else follows.
-- Assumes nothing.
use Rattle.std.specs.Prelude.{◌↔◌, ◌≡◌, refl, ℕ, zero, suc, ◌+◌, ◌-◌, ◌*◌, ◌≤◌, ◌<◌, eqb}
use Rattle.std.proofs.Common.{ap, arith, eqb-true}
use Rattle.std.proofs.lemmas.Bool.{eqb-false}
use Rattle.laws.specs.Pick.{pick, either}
use Rattle.words.specs.Slices.{blocks_of, slices_of}

-- where a message stands: what its transmitter's next slice does to it hangs on nothing else
pub data State : Type 0 where
  -- s words are accepted, c of them since the last CRC
  words : ℕ → ℕ → State
  -- s words are accepted, and a due CRC was taken: its verdict comes with the next slice
  due : ℕ → State
  -- the last CRC was taken: its verdict comes with the next slice
  last : State
  done : State

abbrev pub slice : ℕ → State → State
slice n (words s c) = pick (eqb s n) last (pick (eqb c 128) (due s) (words (s + 1) (c + 1)))
slice n (due s) = words s 0
slice n last = done
slice n done = done

abbrev pub times : {A : Type 0} → (A → A) → ℕ → A → A
times f zero x = x
times f (suc k) x = times f k (f x)

-- after the opening slice, which carries the first word
abbrev pub opened : State
opened = words 1 1

-- ---- the slices still to come

module _ (n : ℕ) where
  -- a word each, and two for each CRC
  abbrev pub left : State → ℕ
  left (words s c) = n - s + 2 * blocks_of (n - s + c)
  left (due s) = n - s + 2 * blocks_of (n - s) + 1
  left last = 1
  left done = 0

  -- a word is left, or one was sent since the last CRC
  abbrev pub Well : State → Type 0
  Well (words s c) = (s ≤ n) × (c ≤ 128) × (s < n + c)
  Well (due s) = s < n
  Well last = Unit {0}
  Well done = Unit {0}

  abbrev OneFewer : State → State → Type 0
  OneFewer x y = Well y × (left y ≡ left x - 1)

  pub falls : (x : State) → Well x → OneFewer x (slice n x)
  falls (words s c) w =
      either (OneFewer (words s c)) (eqb s n) (λ e. (tt, omega (arith, eqb-true)))
      (λ e. either (OneFewer (words s c)) (eqb c 128) (λ f. omega (arith, eqb-true, eqb-false)) (λ f. omega (arith, eqb-false)))
  falls (due s) w = omega arith
  falls last w = (tt, refl)
  falls done w = (tt, refl)

  -- none is left just where it is done
  none_left : (x : State) → Well x → left x ≡ 0 → x ≡ done
  none_left (words s c) w e = absurd (omega arith)
  none_left (due s) w e = absurd (omega arith)
  none_left last w e = absurd (omega arith)
  none_left done w e = refl

  success_from : (k : ℕ) (x : State) → Well x → (times (slice n) k x ≡ done) ↔ (left x ≤ k)
  success_from zero x w = (λ e. omega (arith, ap left e), λ h. none_left x w (omega arith))
  success_from (suc k) x w =
      let one = falls x w in
      let rest = success_from k (slice n x) one.0 in
      (λ e. omega (arith, rest.0 e), λ h. rest.1 (omega arith))

  -- ---- from the opening slice on: success comes on exactly the slice number `slices_of n`

  left_opened : 1 ≤ n → left opened ≡ slices_of n
  left_opened h = omega arith

  pub success : 1 ≤ n → (k : ℕ) → (times (slice n) k opened ≡ done) ↔ (slices_of n ≤ k)
  success h k = rw (left_opened h) at (success_from k opened (omega arith))
