-- Runs of stores, and what makes them: copies, and the turns of the loop over the units.
-- Assumes nothing.
use Rattle.std.proofs.Common.{List, [], ◌∷◌, ◌++◌, ◌≡◌, refl, sym, ap, ◌∙◌, ℕ, suc, ◌+◌, ◌*◌, ◌≤◌, length, take, drop, set, arith, add-one, add-zero, zero-add, length-drop, length-take-le}
use Rattle.std.proofs.Math.Seq.{paste, take_all}
use Rattle.std.proofs.lemmas.List.Edits.{sets, sets-eq}
use Rattle.std.proofs.lemmas.Slice.{put_mid-paste}
use borrow.Rule.Slice.PartMut.{put_mid}
use Rattle.script.specs.Laws.SetUpLaws.{units_long}
use Rattle.script.specs.SetUps.{unit_at, units_at}

-- one run after the other is both in one
pub sets_append : (l : List ℕ) (at : ℕ) (p q : List ℕ) → sets (sets l at p) (at + length p) q ≡ sets l at (p ++ q)
sets_append l at [] q = rw add-zero
sets_append l at (x ∷ p) q =
    let e : at + suc (length p) ≡ suc at + length p = omega arith in
    rw e (sets_append (set l at x) (suc at) p q)

-- the same from the front on, where the first run's length is known
pub sets_front : (l p q : List ℕ) (n : ℕ) → length p ≡ n → sets (sets l 0 p) n q ≡ sets l 0 (p ++ q)
sets_front l p q n long = rw (← long, ← zero-add (length p)) (sets_append l 0 p q)

-- a part that is copied to the front is a run of stores
pub copied : (w : List ℕ) (at n : ℕ) → at + n ≤ length w → paste w 0 (drop at w) n ≡ sets w 0 (take n (drop at w))
copied w at n h =
    let part = take n (drop at w) in
    let long : length part ≡ n = length-take-le n (drop at w) (rw length-drop (omega arith)) in
    sym (sets-eq part w 0 (omega arith) ∙ ap (λ (k : ℕ). take 0 w ++ part ++ drop (0 + k) w) long)

-- and so is a slice that is copied over a part
pub laid : (l vs now : List ℕ) (at n : ℕ) → now ≡ vs → n ≡ length vs → at + n ≤ length l → put_mid at n l now ≡ sets l at vs
laid l vs now at n same long h =
    put_mid-paste at n l now vs n same refl long
    ∙ ap (λ (part : List ℕ). take at l ++ part ++ drop (at + n) l) (take_all n vs (omega arith))
    ∙ ap (λ (k : ℕ). take at l ++ vs ++ drop (at + k) l) long ∙ sym (sets-eq vs l at (omega arith))

-- ---- a turn of the loop over the units

pub one_unit : (n : ℕ) (bytes numbers : List ℕ)
    → sets (sets numbers 0 (units_at n bytes)) (4 * n) (unit_at bytes (3 * n)) ≡ sets numbers 0 (units_at (n + 1) bytes)
unfolding units_at
one_unit n bytes numbers = rw (add-one n) (sets_front numbers (units_at n bytes) (unit_at bytes (3 * n)) (4 * n) (units_long n bytes))
