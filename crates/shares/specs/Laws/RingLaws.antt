-- Neighbours around a ring, by their places and one after the other; and that an address takes at most half of the places.
-- Assumes nothing.
use Rattle.std.specs.Prelude.{true, false, not, List, [], ◌∷◌, ◌≡◌, refl, ℕ, zero, suc, ◌+◌, ◌-◌, ◌*◌, ◌≤◌, ◌<◌, eqb, length, get_or}
use Rattle.std.proofs.Common.{sym, ap, ◌∙◌, add-one, arith, eqb-true, ne_eqb}
use Rattle.std.proofs.lemmas.Bool.{eqb-false, not-true}
use Rattle.laws.specs.Pick.{by}
use Rattle.laws.specs.Laws.Both.{left_of, right_of}
use Rattle.shares.specs.Lists.{same, count, last_of}
use Rattle.shares.specs.Tested.{differ}

-- ---- the test by its places

differ_at : (previous : ℕ) (list : List ℕ) → differ previous list ≡ true
    → (i : ℕ) → i < length list → get_or list i 0 ≡ get_or (previous ∷ list) i 0 → ⊥
unfolding differ
differ_at previous [] e i h q = omega arith
differ_at previous (a ∷ list) e zero h q =
    eqb-false a previous (not-true (eqb a previous) (left_of (not (eqb a previous)) (differ a list) e)) q
differ_at previous (a ∷ list) e (suc i) h q = differ_at a list (right_of (not (eqb a previous)) (differ a list) e) i (omega arith) q

differ_from : (previous : ℕ) (list : List ℕ)
    → ((i : ℕ) → i < length list → get_or list i 0 ≡ get_or (previous ∷ list) i 0 → ⊥) → differ previous list ≡ true
unfolding differ
differ_from previous [] f = refl
differ_from previous (a ∷ list) f =
    rw (ne_eqb a previous (f 0 (omega arith))) (differ_from a list (λ i h. f (suc i) (omega arith)))

module _ (list : List ℕ) where
  pub apart_of : differ (last_of list) list ≡ true → (i : ℕ) → i + 1 < length list → get_or list i 0 ≡ get_or list (i + 1) 0 → ⊥
  apart_of e i h q = differ_at (last_of list) list e (suc i) (omega arith) (sym (rw add-one at q))

  pub ring_of : differ (last_of list) list ≡ true → 0 < length list → last_of list ≡ get_or list 0 0 → ⊥
  ring_of e h q = differ_at (last_of list) list e 0 h (sym q)

  pub differ_of : ((i : ℕ) → i + 1 < length list → get_or list i 0 ≡ get_or list (i + 1) 0 → ⊥) → (last_of list ≡ get_or list 0 0 → ⊥)
      → differ (last_of list) list ≡ true
  differ_of apart ring = differ_from (last_of list) list go
    where
      go : (i : ℕ) → i < length list → get_or list i 0 ≡ get_or (last_of list ∷ list) i 0 → ⊥
      go zero h q = ring (sym q)
      go (suc i) h q = apart i (omega arith) (rw add-one (sym q))

-- ---- at most every second place

-- along a line: each copy is followed by another address, so that copies are at most half of what follows the first of them
half_line : (a previous : ℕ) (list : List ℕ) → differ previous list ≡ true
    → 2 * count a list + same previous a ≤ length list + same (get_or (previous ∷ list) (length list) 0) a
unfolding count differ
half_line a previous [] e = omega arith
half_line a previous (x ∷ list) e =
    let later = half_line a x list (right_of (not (eqb x previous)) (differ x list) e) in
    let other = eqb-false x previous (not-true (eqb x previous) (left_of (not (eqb x previous)) (differ x list) e)) in
    by (eqb x a)
    (λ t.
    let not_before : eqb previous a ≡ false = ne_eqb previous a (λ (q : previous ≡ a). other (eqb-true x a t ∙ sym q)) in
    rw (t, not_before) (omega (arith, rw t at later)))
    (λ t. by (eqb previous a) (λ p. rw (t, p) (omega (arith, rw t at later))) (λ p. rw (t, p) (omega (arith, rw t at later))))

-- around the ring, the last standing before the first
pub half : (a : ℕ) (list : List ℕ) → differ (last_of list) list ≡ true → 2 * count a list ≤ length list
unfolding count
half a [] e = omega arith
half a (x ∷ list) e =
    let end : length (x ∷ list) - 1 ≡ length list = omega arith in
    let last : last_of (x ∷ list) ≡ get_or (x ∷ list) (length list) 0 = ap (λ (n : ℕ). get_or (x ∷ list) n 0) end in
    omega (arith, half_line a (last_of (x ∷ list)) (x ∷ list) e, ap (λ (n : ℕ). same n a) last)
