-- Parts of a list, and a text put behind one.
-- Assumes nothing.
use Rattle.std.specs.Prelude.{List, [], ◌∷◌, ◌++◌, ◌≡◌, ℕ, zero, suc, ◌+◌, ◌-◌, ◌≤◌, length, take, drop}
use Rattle.std.proofs.Common.{ap, ◌∙◌, arith, length-append, length-take, length-drop, drop_of_length-le, take_at, length-take-le}
use Rattle.std.proofs.Math.Nat.{min-le_left}
use Rattle.std.proofs.Math.Seq.{take-nil}
use Rattle.std.proofs.lemmas.List.Edits.{sets, sets-eq}
use Rattle.std.proofs.lemmas.List.{drop-append-le}

-- the elements from one place up to another, as a part that is lent and as a definition says it
pub part : (from to : ℕ) (l : List ℕ) → take (to - from) (drop from l) ≡ drop from (take to l)
part zero to l = let e : to - 0 ≡ to = omega arith in rw e
part (suc from) zero l = let e : 0 - suc from ≡ 0 = omega arith in rw e
part (suc from) (suc to) [] = take-nil (suc to - suc from)
part (suc from) (suc to) (x ∷ l) = let e : suc to - suc from ≡ to - from = omega arith in rw e (part from to l)

pub part_long : (from to : ℕ) (l : List ℕ) → to ≤ length l → length (drop from (take to l)) ≡ to - from
part_long from to l h = length-drop from (take to l) ∙ ap (λ (n : ℕ). n - from) (length-take-le to l h)

pub lent_long : (from to : ℕ) (l : List ℕ) → to ≤ length l → length (take (to - from) (drop from l)) ≡ to - from
lent_long from to l h = ap length (part from to l) ∙ part_long from to l h

-- where it ends no further on than it begins it is empty
pub part_none : (from to : ℕ) (l : List ℕ) → to ≤ from → drop from (take to l) ≡ []
part_none from to l h =
    let short : length (take to l) ≤ from = rw length-take (omega (arith, min-le_left to (length l))) in
    drop_of_length-le (take to l) short

-- a text put where a part ends makes it longer
pub part_put : (from to : ℕ) (l text : List ℕ) → from ≤ to → to + length text ≤ length l
    → drop from (take (to + length text) (sets l to text)) ≡ drop from (take to l) ++ text
part_put from to l text front room =
    let long : length (take to l) ≡ to = length-take-le to l (omega arith) in
    let both : length (take to l ++ text) ≡ to + length text = length-append (take to l) text ∙ ap (λ (n : ℕ). n + length text) long in
    let h : from ≤ length (take to l) = omega arith in
    ap (λ (x : List ℕ). drop from (take (to + length text) x)) (sets-eq text l to room)
    ∙ ap (drop from) (take_at (take to l ++ text) (drop (to + length text) l) (to + length text) both)
    ∙ drop-append-le from (take to l) text h
