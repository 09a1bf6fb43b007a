-- What the search for a unit says of the one that it finds, and of those before it.
-- Assumes nothing.
use Rattle.std.specs.Prelude.{Bool, List, ◌≡◌, Option, Some, None, unwrap_or}
use Rattle.std.proofs.Math.Bool.{true, false}
use Rattle.std.proofs.Math.Logic.{⊎_elim}
use Rattle.std.proofs.Math.Path.{refl}
use Rattle.std.proofs.Common.{sym, ap, ◌∙◌, eq-or-lt_of_le, lit<}
use Prim.Native.Nat.{ℕ, zero, suc, ◌+◌, ◌≤◌, ◌<◌}
use native.Mathlib.Omega.{arith}
use Rattle.std.proofs.lemmas.Option.{none-some}
use borrow.Author.Tests.{eqb-true, eqb-false, ltb-true, ltb-false, le-ltb, lt-ltb, ne_eqb}
use Rattle.std.proofs.Math.Dec.{eqb, ltb}
use Rattle.codec.specs.Masters.{SECTION, SEC}
use Rattle.codec.specs.Laws.WindowLaws.{cell_window}
use Rattle.laws.specs.Bits.{bit, on, bit_at}
use Rattle.laws.specs.Pick.{pick, here, past, by}
use Rattle.laws.specs.Laws.Fields.{bit_on}
use Rattle.cells.specs.Fitted.{Fitted, master_of}
use Rattle.cells.specs.Layout.{count_in, master_place, secondary_in}
use Rattle.cells.specs.Ranges.{in_range}
use Rattle.cells.specs.Search.{named, first_found, first_secondary}
use Rattle.cells.specs.Laws.RangeLaws.{fitted as counted_fitted}

-- ---- a test inside a definition is taken apart by a helper that is handed the test's value and its equation

module _ (number_of : ℕ → ℕ) (a : ℕ) where
  -- a unit that is found has the number
  pub found : (n i : ℕ) → first_found number_of a n i < 16 → number_of (first_found number_of a n i) ≡ a
  unfolding first_found
  found zero i h = absurd (omega arith)
  found (suc n) i h = go (eqb (number_of i) a) refl (found n (suc i)) h
    where
      go : (t : Bool) → eqb (number_of i) a ≡ t → (first_found number_of a n (suc i) < 16 → number_of (first_found number_of a n (suc i)) ≡ a)
          → pick t i (first_found number_of a n (suc i)) < 16 → number_of (pick t i (first_found number_of a n (suc i))) ≡ a
      go true e later h = eqb-true (number_of i) a e
      go false e later h = later h

  -- and is one of those looked at
  pub fitted : (n i : ℕ) → first_found number_of a n i < 16 → first_found number_of a n i < i + n
  unfolding first_found
  fitted zero i h = absurd (omega arith)
  fitted (suc n) i h = go (eqb (number_of i) a) (fitted n (suc i)) h
    where
      go : (t : Bool) → (first_found number_of a n (suc i) < 16 → first_found number_of a n (suc i) < suc i + n)
          → pick t i (first_found number_of a n (suc i)) < 16 → pick t i (first_found number_of a n (suc i)) < i + suc n
      go true later h = omega arith
      go false later h = omega (arith, later h)

  -- none before it has the number
  pub first : (n i k : ℕ) → i ≤ k → k < i + n → k < first_found number_of a n i → number_of k ≡ a → ⊥
  unfolding first_found
  first zero i k from below h here = omega arith
  first (suc n) i k from below h here = go (eqb (number_of i) a) refl (λ l h. first n (suc i) k l (omega arith) h here) h
    where
      go : (t : Bool) → eqb (number_of i) a ≡ t → (i < k → k < first_found number_of a n (suc i) → ⊥) → k < pick t i (first_found number_of a n (suc i)) → ⊥
      go true e later h = omega arith
      go false e later h = ⊎_elim (λ (q : i ≡ k). eqb-false (number_of i) a e (rw q here)) (λ l. later l h) (eq-or-lt_of_le from)

  -- the answer is 16 or a unit
  pub at_most : (n i : ℕ) → i + n ≤ 16 → first_found number_of a n i ≤ 16
  unfolding first_found
  at_most zero i h = omega arith
  at_most (suc n) i h = go (eqb (number_of i) a) (at_most n (suc i) (omega arith))
    where
      go : (t : Bool) → first_found number_of a n (suc i) ≤ 16 → pick t i (first_found number_of a n (suc i)) ≤ 16
      go true later = omega arith
      go false later = later

-- it goes by the numbers alone
pub first_agrees : (f g : ℕ → ℕ) (a n i : ℕ) → ((k : ℕ) → i ≤ k → k < i + n → f k ≡ g k) → first_found f a n i ≡ first_found g a n i
unfolding first_found
first_agrees f g a zero i h = refl
first_agrees f g a (suc n) i h = rw (h i (omega arith) (omega arith), first_agrees f g a n (suc i) (λ k l m. h k (omega arith) (omega arith)))

-- in a state in range, one that is found is fitted
pub found_fitted : (cells : List ℕ) → in_range cells ≡ true → (number_of : ℕ → ℕ) (a : ℕ) → first_found number_of a (count_in cells) 0 < 16
    → Fitted cells (first_found number_of a (count_in cells) 0)
found_fitted cells ok number_of a h = counted_fitted cells ok _ (omega (arith, fitted number_of a (count_in cells) 0 h))

-- ---- SEC, as a unit's master section has it

pub secondary_is : (cells : List ℕ) (u : ℕ) → (master_of cells u).secondary ≡ on (secondary_in cells u)
secondary_is cells u = ap (λ (word : ℕ). bit_at word SEC) (cell_window cells (master_place u) 52 SECTION (lit< tt))

-- so the unit found has it
pub secondary_found : (cells : List ℕ) (count : ℕ) → first_secondary cells count < 16 → (master_of cells (first_secondary cells count)).secondary ≡ true
secondary_found cells count h =
    secondary_is cells (first_secondary cells count) ∙ ap on (found (secondary_in cells) 1 count 0 h)

-- and none before it
pub secondary_first : (cells : List ℕ) (count k : ℕ) → k < count → k < first_secondary cells count → (master_of cells k).secondary ≡ false
secondary_first cells count k below before =
    secondary_is cells k ∙ ne_eqb (secondary_in cells k) 1 (first (secondary_in cells) 1 count 0 k (omega arith) (omega arith) before)

-- it goes by the sections alone
pub secondary_agrees : (cells after : List ℕ) (count : ℕ) → ((k : ℕ) → k < count → (master_of after k).secondary ≡ (master_of cells k).secondary)
    → first_secondary after count ≡ first_secondary cells count
secondary_agrees cells after count same =
    first_agrees (secondary_in after) (secondary_in cells) 1 count 0 (λ k from below. secondary_bit after k ∙ ap bit (same k (omega arith)) ∙ sym (secondary_bit cells k))
  where
    secondary_bit : (l : List ℕ) (k : ℕ) → secondary_in l k ≡ bit (master_of l k).secondary
    secondary_bit l k = sym (ap bit (secondary_is l k) ∙ bit_on _)

-- ---- the unit of a number, and the number of a unit or of none

pub named_unit : (n : ℕ) → n < 16 → Some n ≡ named n
named_unit n h = here None (lt-ltb n 16 h) refl

pub named_number : (n : ℕ) → n ≤ 16 → unwrap_or (named n) 16 ≡ n
named_number n most =
    by (ltb n 16)
    (λ near. rw near refl)
    (λ far. rw far (omega (arith, ltb-false n 16 far)))

pub named_is : (n u : ℕ) → Some u ≡ named n → (u ≡ n) × (n < 16)
named_is n u is =
    by (ltb n 16)
    (λ near.
    let same : Some u ≡ Some n = is ∙ rw near refl in
    (ap (λ (o : Option ℕ). unwrap_or o u) same, ltb-true n 16 near))
    (λ far. absurd (none-some u (sym (is ∙ rw far refl))))

pub named_none : (n : ℕ) → None ≡ named n → 16 ≤ n
named_none n is = by (ltb n 16) (λ near. absurd (none-some n (is ∙ rw near refl))) (λ far. ltb-false n 16 far)

-- what is done at the unit of a number, and what where it is none's
module _ {X : Type 0} (at : ℕ → X) (other : X) (n : ℕ) where
  pub at_unit : (u : ℕ) → Some u ≡ named n → at u ≡ pick (ltb n 16) (at n) other
  at_unit u is = here other (lt-ltb n 16 (named_is n u is).1) (ap at (named_is n u is).0)

  pub at_none : None ≡ named n → other ≡ pick (ltb n 16) (at n) other
  at_none is = past (at n) (le-ltb n 16 (named_none n is)) refl
