-- Counts of an address: in two lists, in a block, and of a list in which every count is what a load wants.
-- Assumes nothing.
use Rattle.std.specs.Prelude.{Bool, true, false, ◌||◌, List, [], ◌∷◌, ◌++◌, ◌≡◌, refl, ℕ, zero, suc, ◌+◌, ◌≤◌, ◌<◌, eqb, length, replicate, get_or}
use Rattle.std.proofs.Common.{true≢false, sym, ◌∙◌, arith, eqb-true, eq-eqb, ne_eqb}
use Rattle.std.proofs.lemmas.Bool.{eqb-false}
use Rattle.laws.specs.Pick.{pick, by}
use Rattle.shares.specs.Lists.{same, count}
use Rattle.shares.specs.Refusals.{named, any_twice}
use Rattle.shares.specs.Wanted.{turns_for, share_at}
use Rattle.shares.specs.declared.wanted.Share.{Share}

-- ---- tests that two numbers are equal

pub eqb_comm : (a b : ℕ) → eqb a b ≡ eqb b a
eqb_comm a b =
    by (eqb a b) (λ e. e ∙ sym (eq-eqb b a (sym (eqb-true a b e)))) (λ e. e ∙ sym (ne_eqb b a (λ (q : b ≡ a). eqb-false a b e (sym q))))

pub eqb_same : (a : ℕ) → eqb a a ≡ true
eqb_same a = eq-eqb a a refl

pub not_left : (a b : Bool) → a || b ≡ false → a ≡ false
not_left true b e = e
not_left false b e = refl

pub not_right : (a b : Bool) → a || b ≡ false → b ≡ false
not_right true true e = e
not_right true false e = refl
not_right false b e = e

-- ---- counts

pub same_le : (x a : ℕ) → same x a ≤ 1
same_le x a = by (eqb x a) (λ e. rw e (omega arith)) (λ e. rw e (omega arith))

pub count_append : (a : ℕ) (xs ys : List ℕ) → count a (xs ++ ys) ≡ count a xs + count a ys
unfolding count
count_append a [] ys = omega arith
count_append a (x ∷ xs) ys = omega (arith, count_append a xs ys)

pub count_le : (a : ℕ) (xs : List ℕ) → count a xs ≤ length xs
unfolding count
count_le a [] = omega arith
count_le a (x ∷ xs) =
    by (eqb x a) (λ e. rw e (omega (arith, count_le a xs))) (λ e. rw e (omega (arith, count_le a xs)))

pub count_block : (a b n : ℕ) → count a (replicate n b) ≡ pick (eqb b a) n 0
unfolding count
count_block a b zero = by (eqb b a) (λ e. rw e) (λ e. rw e)
count_block a b (suc n) =
    by (eqb b a) (λ e. rw e (omega (arith, rw e at (count_block a b n)))) (λ e. rw e (omega (arith, rw e at (count_block a b n))))

-- what stands in a list is counted
pub counted : (xs : List ℕ) (i : ℕ) → i < length xs → 1 ≤ count (get_or xs i 0) xs
unfolding count
counted [] i h = absurd (omega arith)
counted (x ∷ xs) zero h = rw (eqb_same x) (omega arith)
counted (x ∷ xs) (suc i) h = omega (arith, counted xs i (omega arith))

-- what is not counted does not stand in it
pub uncounted : (a : ℕ) (xs : List ℕ) → count a xs ≡ 0 → (i : ℕ) → i < length xs → get_or xs i 0 ≡ a → ⊥
uncounted a xs none i h e = omega (arith, rw e at (counted xs i h))

-- ---- turns

pub unnamed_none : (a : ℕ) (shares : List Share) → named a shares ≡ false → turns_for a shares ≡ 0
unfolding named turns_for
unnamed_none a [] e = refl
unnamed_none a (s ∷ shares) e =
    rw (not_left (eqb s.address a) (named a shares) e, unnamed_none a shares (not_right (eqb s.address a) (named a shares) e))

pub named_at : (shares : List Share) (i : ℕ) → i < length shares → named (share_at shares i).address shares ≡ true
unfolding named
named_at [] i h = absurd (omega arith)
named_at (s ∷ shares) zero h = rw (eqb_same s.address)
named_at (s ∷ shares) (suc i) h =
    by (eqb s.address (share_at shares i).address) (λ e. rw e) (λ e. rw e (named_at shares i (omega arith)))

-- where no address is named twice, each has the turns of the one place where it stands
pub turns_at : (shares : List Share) → any_twice shares ≡ false → (i : ℕ) → i < length shares
    → turns_for (share_at shares i).address shares ≡ (share_at shares i).turns
unfolding any_twice turns_for
turns_at [] once i h = absurd (omega arith)
turns_at (s ∷ shares) once zero h =
    rw (eqb_same s.address, unnamed_none s.address shares (not_left (named s.address shares) (any_twice shares) once)) (omega arith)
turns_at (s ∷ shares) once (suc i) h =
    let here = turns_at shares (not_right (named s.address shares) (any_twice shares) once) i (omega arith) in
    let other : eqb s.address (share_at shares i).address ≡ false =
    ne_eqb s.address (share_at shares i).address
    (λ (q : s.address ≡ (share_at shares i).address).
    true≢false
    (sym (rw (← q) at (named_at shares i (omega arith))) ∙ not_left (named s.address shares) (any_twice shares) once)) in
    rw other (omega (arith, here))
