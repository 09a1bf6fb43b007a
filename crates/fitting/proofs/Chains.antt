-- What a chain over the units below a number asks of each of them, in the words of the set-up's definitions.
-- Assumes nothing.
use Rattle.std.specs.Prelude.{Bool, true, false, not, ◌&&◌, ◌||◌, List, [], ◌∷◌, ◌++◌, ◌≡◌, refl, ℕ, zero, suc, ◌+◌, eqb}
use Rattle.std.specs.List.{list_any, list_all, range_with_len}
use Rattle.std.proofs.Common.{ap, ◌∙◌, arith}
use Rattle.std.proofs.lemmas.List.Folds.{list_any-append, list_all-append}
use Rattle.fitting.specs.SetUp.{SENDS_AS, RECEIVES_AS, number_of, unit_good, taken_by, again, units_good}

-- the units below n + 1 are those below n, and n
one_more : (a n : ℕ) → range_with_len a (suc n) ≡ range_with_len a n ++ ((a + n) ∷ [])
one_more a zero = let e : a ≡ a + 0 = omega arith in ap (λ (x : ℕ). x ∷ []) e
one_more a (suc n) =
    let e : a + 1 + n ≡ a + suc n = omega arith in
    ap (λ (l : List ℕ). a ∷ l) (one_more (a + 1) n ∙ ap (λ (x : ℕ). range_with_len (a + 1) n ++ (x ∷ [])) e)

last_or : (b c : Bool) → b || (c || false) ≡ b || c
last_or true c = refl
last_or false true = refl
last_or false false = refl

last_and : (b c : Bool) → b && (c && true) ≡ b && c
last_and true true = refl
last_and true false = refl
last_and false c = refl

any_more : (test : ℕ → Bool) (n : ℕ) → list_any test (range_with_len 0 (suc n)) ≡ list_any test (range_with_len 0 n) || test n
any_more test n =
    let e : 0 + n ≡ n = omega arith in
    ap (list_any test) (one_more 0 n)
    ∙ list_any-append test (range_with_len 0 n) ((0 + n) ∷ [])
    ∙ last_or (list_any test (range_with_len 0 n)) (test (0 + n))
    ∙ ap (λ (x : ℕ). list_any test (range_with_len 0 n) || test x) e

all_more : (test : ℕ → Bool) (n : ℕ) → list_all test (range_with_len 0 (suc n)) ≡ list_all test (range_with_len 0 n) && test n
all_more test n =
    let e : 0 + n ≡ n = omega arith in
    ap (list_all test) (one_more 0 n)
    ∙ list_all-append test (range_with_len 0 n) ((0 + n) ∷ [])
    ∙ last_and (list_all test (range_with_len 0 n)) (test (0 + n))
    ∙ ap (λ (x : ℕ). list_all test (range_with_len 0 n) && test x) e

pub taken : (setup : List ℕ) (k wanted n : ℕ) → list_any (λ (u : ℕ). eqb (number_of setup u k) wanted) (range_with_len 0 n) ≡ taken_by setup k wanted n
unfolding taken_by
taken setup k wanted zero = refl
taken setup k wanted (suc n) =
    any_more (λ (u : ℕ). eqb (number_of setup u k) wanted) n ∙ ap (λ (b : Bool). b || eqb (number_of setup n k) wanted) (taken setup k wanted n)

-- a unit's own rules, and that its addresses are none of those before it
abbrev pub good_at : List ℕ → ℕ → Bool
good_at setup unit = unit_good setup unit && not (again setup SENDS_AS unit) && not (again setup RECEIVES_AS unit)

four : (a b c d : Bool) → a && (b && c && d) ≡ a && b && c && d
four true b c d = refl
four false b c d = refl

pub good : (setup : List ℕ) (n : ℕ) → list_all (good_at setup) (range_with_len 0 n) ≡ units_good setup n
unfolding units_good
good setup zero = refl
good setup (suc n) =
    all_more (good_at setup) n
    ∙ ap (λ (b : Bool). b && good_at setup n) (good setup n)
    ∙ four (units_good setup n) (unit_good setup n) (not (again setup SENDS_AS n)) (not (again setup RECEIVES_AS n))
