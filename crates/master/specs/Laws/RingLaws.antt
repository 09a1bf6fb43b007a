-- The addresses of an address silo one by one, and what it says of a ring that it may start.
-- Assumes nothing.
use Rattle.std.specs.Prelude.{Bool, true, false, not, ◌&&◌, List, [], ◌∷◌, ◌≡◌, refl, ℕ, zero, suc, ◌≤◌, ◌<◌, eqb, get_or, length}
use Rattle.std.proofs.lemmas.Bool.{false≢true, eqb-false, not-true}
use Rattle.std.proofs.Common.{◌∙◌, not-suc-le-zero, le_of_suc-le-suc, leb-true, lit≤}
use Rattle.std.proofs.lemmas.List.{length-map}
use Rattle.std.proofs.Math.ListN.{get_or-map}
use Rattle.silos.specs.Laws.Laws.{length_words}
use Rattle.silos.specs.Silo.{Sized, words, count}
use Rattle.silos.specs.declared.Silo.{Silo}
use Rattle.master.specs.Ring.{address, addresses_in, differ, last_of, may_start}

pub length_addresses : (silo : Silo) → Sized 50 silo → length (addresses_in silo) ≡ count silo
length_addresses silo h = length-map (words silo) address ∙ length_words 50 (lit≤ tt) silo h

pub address_at : (silo : Silo) (i : ℕ) → get_or (addresses_in silo) i 0 ≡ address (get_or (words silo) i 0)
address_at silo i = get_or-map address (words silo) i 0

pub true_both : (a b : Bool) → a && b ≡ true → (a ≡ true) × (b ≡ true)
true_both true b e = (refl, e)
true_both false b e = absurd (false≢true e)

differ_at : (previous : ℕ) (ring : List ℕ) → differ previous ring ≡ true
    → (i : ℕ) → i < length ring → get_or ring i 0 ≡ get_or (previous ∷ ring) i 0 → ⊥
unfolding differ
differ_at previous [] e i h q = not-suc-le-zero h
differ_at previous (a ∷ later) e zero h q =
    eqb-false a previous (not-true (eqb a previous) (true_both (not (eqb a previous)) (differ a later) e).0) q
differ_at previous (a ∷ later) e (suc i) h q =
    differ_at a later (true_both (not (eqb a previous)) (differ a later) e).1 i (le_of_suc-le-suc h) q

-- a ring that may start has 20 to 50 addresses, and none is equal to the one before it, the last standing before the first
pub apart : (ring : List ℕ) → may_start ring ≡ true
    → (20 ≤ length ring) × (length ring ≤ 50) × ((i : ℕ) → i < length ring → get_or ring i 0 ≡ get_or (last_of ring ∷ ring) i 0 → ⊥)
apart ring e =
    let (sizes, around) = true_both _ _ e in
    let (least, most) = true_both _ _ sizes in
    (leb-true 20 (length ring) least, leb-true (length ring) 50 most, differ_at (last_of ring) ring around)
