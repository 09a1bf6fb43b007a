-- The slices that a ring of addresses gives, one after the other: of any that are as many as the ring is long, one is for each address
-- in it.
-- Assumes nothing.
use mathlib.Core.List.{List, [], ◌∷◌}
use Rattle.std.specs.Prelude.{◌≡◌, eqb, length, get_or, drop}
use Rattle.std.proofs.Math.Path.{refl, ap, ap₂, subst, subst⁻¹}
use Rattle.std.proofs.Common.{sym, ◌∙◌, le_of_suc-le-suc, not-suc-le-zero, arith, eq-eqb, ne_eqb}
use Prim.Native.Nat.{ℕ, zero, suc, ◌+◌, ◌≤◌, ◌<◌}
use Rattle.std.proofs.Math.ListN.{take, get_or-append}
use Rattle.promise.proofs.Laws.Counting.{Fair}
use Rattle.promise.specs.Kinds.{Kind, own, other, quiet, owns, slots}
use Rattle.laws.specs.Pick.{pick}
use Rattle.master.specs.Laws.Rotation.{Among, among_rotated, length_rotated, rotated}
use Rattle.promise.proofs.Laws.Follows.{Turns}

-- what stands in a ring past its first place stands a place before when it has turned
pub turned_to : (a j : ℕ) (ring : List ℕ) → suc j < length ring → get_or ring (suc j) 0 ≡ a → (j < length (rotated ring)) × (get_or (rotated ring) j 0 ≡ a)
turned_to a j [] h e = absurd (not-suc-le-zero h)
turned_to a j (b ∷ ring) h e =
    let short : j < length ring = le_of_suc-le-suc h in
    (subst⁻¹ (λ (n : ℕ). j < n) (length_rotated (b ∷ ring)) (omega arith), get_or-append ring (b ∷ []) 0 j short ∙ e)

module _ (address : ℕ) where
  -- k slices, the ring turning
  unfoldable pub around : ℕ → List ℕ → List Kind
  around zero ring = []
  around (suc k) ring = pick (eqb (get_or ring 0 0) address) own other ∷ around k (rotated ring)

  pub length_around : (k : ℕ) (ring : List ℕ) → length (around k ring) ≡ k
  unfolding around
  length_around zero ring = refl
  length_around (suc k) ring = ap suc (length_around k (rotated ring))

  -- ---- the slices of a run are those

  pub before_around : (kind : Kind) (ks : List Kind) (ring next : List ℕ) → Turns address kind ring next → slots ks ≡ around (length (slots ks)) next
      → slots (kind ∷ ks) ≡ around (length (slots (kind ∷ ks))) ring
  unfolding around
  before_around own ks ring next (first, turned) e =
      ap₂ (λ (k : Kind) (rest : List Kind). k ∷ rest) (sym (rw (eq-eqb (get_or ring 0 0) address first)))
      (e ∙ ap (around (length (slots ks))) turned)
  before_around other ks ring next (differs, turned) e =
      ap₂ (λ (k : Kind) (rest : List Kind). k ∷ rest) (sym (rw (ne_eqb (get_or ring 0 0) address differs)))
      (e ∙ ap (around (length (slots ks))) turned)
  before_around quiet ks ring next same e = e ∙ ap (around (length (slots ks))) same

  -- ---- one in each round

  more : (kind : Kind) (ks : List Kind) → owns ks ≤ owns (kind ∷ ks)
  more own ks = omega arith
  more other ks = omega arith
  more quiet ks = omega arith

  -- the address at a place of the ring is given in that slice
  comes : (j L k : ℕ) (ring : List ℕ) → j < L → L ≤ k → j < length ring → get_or ring j 0 ≡ address → 0 < owns (take L (around k ring))
  unfolding around
  comes j zero k ring h l inside e = absurd (not-suc-le-zero h)
  comes j (suc L) zero ring h l inside e = absurd (not-suc-le-zero l)
  comes j (suc L) (suc k) [] h l inside e = absurd (not-suc-le-zero inside)
  comes zero (suc L) (suc k) (a ∷ ring) h l inside e =
      let first : pick (eqb a address) own other ≡ own = rw (eq-eqb a address e) in
      subst⁻¹ (λ (kind : Kind). 0 < owns (kind ∷ take L (around k (rotated (a ∷ ring))))) first (omega arith)
  comes (suc j) (suc L) (suc k) (a ∷ ring) h l inside e =
      let (there, f) = turned_to address j (a ∷ ring) inside e in
      let later = comes j L k (rotated (a ∷ ring)) (le_of_suc-le-suc h) (le_of_suc-le-suc l) there f in
      omega (arith, more (pick (eqb a address) own other) (take L (around k (rotated (a ∷ ring)))), later)

  in_each : (i k : ℕ) (ring : List ℕ) → Among address ring → i + length ring ≤ k → 0 < owns (take (length ring) (drop i (around k ring)))
  unfolding around
  in_each zero k ring (j, inside, e) l = comes j (length ring) k ring inside (omega arith) inside e
  in_each (suc i) zero ring among l = absurd (omega arith)
  in_each (suc i) (suc k) ring among l =
      let same = length_rotated ring in
      subst (λ (n : ℕ). 0 < owns (take n (drop i (around k (rotated ring))))) same
      (in_each i k (rotated ring) (among_rotated address ring among) (omega (arith, same)))

  pub fair : (k : ℕ) (ring : List ℕ) → Among address ring → Fair (length ring) (around k ring)
  fair k ring among i l = in_each i k ring among (omega (arith, length_around k ring))
