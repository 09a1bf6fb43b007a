-- Loops place by place: what is left from a place on is what stands there and what is left from the next one on.
-- Assumes nothing.
use Rattle.std.specs.Prelude.{Bool, true, false, ◌&&◌, ◌||◌, List, [], ◌∷◌, ◌≡◌, refl, ℕ, zero, suc, ◌+◌, ◌*◌, ◌/◌, ◌≤◌, ◌<◌, length, get_or, take, drop, set}
use Rattle.std.proofs.Common.{sym, ap, ◌∙◌, add-one, arith, drop_of_length-le, drop-cons, take-suc, take-suc-set, take_all}
use Rattle.shares.specs.Wanted.{shares_in, share_at}
use Rattle.shares.specs.declared.wanted.Share.{Share}

-- ---- any list

module _ {A : Type 0} (list : List A) (none : A) (i : ℕ) where
  pub next : i < length list → drop i list ≡ get_or list i none ∷ drop (i + 1) list
  next h = rw add-one (drop-cons list i none h)

  pub no_next : length list ≤ i → drop i list ≡ []
  no_next h = drop_of_length-le list h

-- a list that is filled from the front on, so that it becomes another
module _ (wanted list : List ℕ) (i : ℕ) where
  pub filled_next : (a : ℕ) → i < length list → i < length wanted → a ≡ get_or wanted i 0 → take i list ≡ take i wanted
      → take (i + 1) (set list i a) ≡ take (i + 1) wanted
  filled_next a h g e f =
      rw (add-one i, take-suc-set list i a h, take-suc wanted i 0 g, e, f)

  pub filled : length list ≡ length wanted → length list ≤ i → take i list ≡ take i wanted → list ≡ wanted
  filled e h f =
      let g : length wanted ≤ i = omega arith in
      sym (take_all i list h) ∙ f ∙ take_all i wanted g

-- ---- the shares of a row of numbers

pub length_shares : (wanted : List ℕ) → length (shares_in wanted) ≡ length wanted / 2
unfolding shares_in
length_shares [] = refl
length_shares (a ∷ []) = refl
length_shares (a ∷ k ∷ wanted) = omega (arith, length_shares wanted)

abbrev pub share_from : List ℕ → ℕ → ℕ → Share
share_from wanted first second = record { address = get_or wanted first 0; turns = get_or wanted second 0 }

pub share_is : (wanted : List ℕ) (i : ℕ) → i < length (shares_in wanted) → share_from wanted (2 * i) (2 * i + 1) ≡ share_at (shares_in wanted) i
unfolding shares_in
share_is [] i h = absurd (omega arith)
share_is (a ∷ []) i h = absurd (omega arith)
share_is (a ∷ k ∷ wanted) zero h = refl
share_is (a ∷ k ∷ wanted) (suc i) h =
    let here : 2 * suc i ≡ suc (suc (2 * i)) = omega arith in
    let there : 2 * suc i + 1 ≡ suc (suc (2 * i + 1)) = omega arith in
    ap (λ (x : ℕ). share_from (a ∷ k ∷ wanted) x (2 * suc i + 1)) here
    ∙ ap (λ (y : ℕ). share_from (a ∷ k ∷ wanted) (suc (suc (2 * i))) y) there
    ∙ share_is wanted i (omega arith)

-- ---- a test of every element, looked for place by place. `rest` is what follows the element

module _ {A : Type 0} (any : List A → Bool) (test : A → List A → Bool) (ends : any [] ≡ false)
    (goes : (x : A) (rest : List A) → any (x ∷ rest) ≡ test x rest || any rest) (list : List A) (none : A) (i : ℕ) where
  pub found_here : i < length list → test (get_or list i none) (drop (i + 1) list) ≡ true → true ≡ any (drop i list)
  found_here h e = sym (ap any (next list none i h) ∙ goes (get_or list i none) (drop (i + 1) list) ∙ rw e)

  pub not_here : i < length list → test (get_or list i none) (drop (i + 1) list) ≡ false → any (drop (i + 1) list) ≡ any (drop i list)
  not_here h e = sym (ap any (next list none i h) ∙ goes (get_or list i none) (drop (i + 1) list) ∙ rw e)

  pub found_none : length list ≤ i → false ≡ any (drop i list)
  found_none h = sym (ap any (no_next list none i h) ∙ ends)

module _ {A : Type 0} (all : List A → Bool) (test : A → Bool) (ends : all [] ≡ true)
    (goes : (x : A) (rest : List A) → all (x ∷ rest) ≡ test x && all rest) (list : List A) (none : A) (i : ℕ) where
  pub fails_here : i < length list → test (get_or list i none) ≡ false → false ≡ all (drop i list)
  fails_here h e = sym (ap all (next list none i h) ∙ goes (get_or list i none) (drop (i + 1) list) ∙ rw e)

  pub holds_here : i < length list → test (get_or list i none) ≡ true → all (drop (i + 1) list) ≡ all (drop i list)
  holds_here h e = sym (ap all (next list none i h) ∙ goes (get_or list i none) (drop (i + 1) list) ∙ rw e)

  pub holds_all : length list ≤ i → true ≡ all (drop i list)
  holds_all h = sym (ap all (no_next list none i h) ∙ ends)
