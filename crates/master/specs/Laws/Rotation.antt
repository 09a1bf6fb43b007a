-- A list that is turned: the first goes to the end.
-- Assumes nothing.
use Rattle.std.specs.Prelude.{List, [], ◌∷◌, ◌++◌, ◌≡◌, refl, ℕ, zero, suc, ◌≤◌, ◌<◌, length, get_or, take, drop}
use Rattle.std.proofs.Common.{append_assoc, append-nil, ap, sym, ◌∙◌, not-suc-le-zero, le_of_suc-le-suc, arith, take-append-drop, length-append, length-take-le, drop-cons}
use Rattle.std.proofs.Math.ListN.{get_or-append}
use Rattle.std.proofs.Math.Seq.{get_or-append_seam}

abbrev pub rotated : List ℕ → List ℕ
rotated [] = []
rotated (x ∷ xs) = xs ++ (x ∷ [])

unfoldable pub turned : ℕ → List ℕ → List ℕ
turned zero xs = xs
turned (suc k) xs = turned k (rotated xs)

-- x stands in the list
abbrev pub Among : ℕ → List ℕ → Type 0
Among x xs = (k : ℕ) × (k < length xs) × (get_or xs k 0 ≡ x)

-- ---- laws

pub length_rotated : (xs : List ℕ) → length (rotated xs) ≡ length xs
length_rotated [] = refl
length_rotated (x ∷ xs) = simp length-append (omega arith)

-- what stands in a list stands in it when it has turned
pub among_rotated : (x : ℕ) (xs : List ℕ) → Among x xs → Among x (rotated xs)
among_rotated x [] (k, h, e) = absurd (not-suc-le-zero h)
among_rotated x (y ∷ ys) (zero, h, e) = (length ys, simp length-append (omega arith), get_or-append_seam ys y [] 0 ∙ e)
among_rotated x (y ∷ ys) (suc k, h, e) =
    let l = le_of_suc-le-suc h in
    (k, simp length-append (omega arith), get_or-append ys (y ∷ []) 0 k l ∙ e)

-- as many turns as the first part is long bring the second to the front
turned_past : (xs ys : List ℕ) → turned (length xs) (xs ++ ys) ≡ ys ++ xs
unfolding turned
turned_past [] ys = sym (append-nil ys)
turned_past (x ∷ xs) ys =
    ap (turned (length xs)) (append_assoc xs ys (x ∷ [])) ∙ turned_past xs (ys ++ (x ∷ [])) ∙ append_assoc ys (x ∷ []) xs

module _ (xs : List ℕ) (k : ℕ) where
  pub turned_is : k ≤ length xs → turned k xs ≡ drop k xs ++ take k xs
  turned_is h = rw (length-take-le k xs h, take-append-drop k xs) at (turned_past (take k xs) (drop k xs))

  -- after k turns, what was k-th is the first
  pub first_turned : k < length xs → get_or (turned k xs) 0 0 ≡ get_or xs k 0
  first_turned h = let le : k ≤ length xs = omega arith in rw (turned_is le, drop-cons xs k 0 h)

-- and after as many turns as it is long, it stands as before
pub turned_round : (xs : List ℕ) → turned (length xs) xs ≡ xs
turned_round xs = rw append-nil at (turned_past xs [])
