-- A number's text, read as decimal, is the number.
-- Assumes nothing.
use Rattle.std.specs.Prelude.{List, [], ◌∷◌, ◌++◌, ◌≡◌, refl, ℕ, ◌+◌, ◌-◌, ◌*◌, ◌/◌, ◌^◌, ◌<◌, ltb}
use Rattle.std.proofs.Common.{ap, ◌∙◌, arith, ltb-true}
use Rattle.std.proofs.Math.Nat.{div-eq_of_lt}
use Rattle.laws.specs.Pick.{by}
use Rattle.script.specs.Lines.{digit, place, decimal, long_decimal}

-- the number that a text goes on to, from what stands before it
abbrev pub value_from : ℕ → List ℕ → ℕ
value_from n [] = n
value_from n (c ∷ text) = value_from (n * 10 + (c - 48)) text

after : (n : ℕ) (p q : List ℕ) {m : ℕ} → value_from n p ≡ m → value_from n (p ++ q) ≡ value_from m q
after n [] q e = ap (λ (k : ℕ). value_from k q) e
after n (c ∷ p) q e = after (n * 10 + (c - 48)) p q e

one_digit : (x : ℕ) → x / 10 * 10 + (digit x - 48) ≡ x
one_digit x = omega arith

one_place : (n unit : ℕ) {k : ℕ} → k ≡ n / unit / 10 → value_from k (place n unit) ≡ n / unit
one_place n unit e =
    by (ltb n unit)
    (λ less.
    let zero : n / unit ≡ 0 = div-eq_of_lt (ltb-true _ _ less) in
    rw (less, e, zero))
    (λ more. rw (more, e) (one_digit (n / unit)))

-- the last five digits, from what stands above them
five_digits : (n k : ℕ) → k ≡ n / 100000 → value_from k (decimal n) ≡ n
unfolding decimal
five_digits n k above =
    let p = place n 10000 in
    let q = p ++ place n 1000 in
    let r = q ++ place n 100 in
    let first : value_from k p ≡ n / 10000 = one_place n 10000 (omega arith) in
    let second : value_from k q ≡ n / 1000 = after k p (place n 1000) first ∙ one_place n 1000 (omega arith) in
    let third : value_from k r ≡ n / 100 = after k q (place n 100) second ∙ one_place n 100 (omega arith) in
    let fourth : value_from k (r ++ place n 10) ≡ n / 10 = after k r (place n 10) third ∙ one_place n 10 (omega arith) in
    after k (r ++ place n 10) (digit n ∷ []) fourth ∙ one_digit n

pub decimal_value : (n : ℕ) → n < 2 ^ 16 → value_from 0 (decimal n) ≡ n
decimal_value n h = five_digits n 0 (omega arith)

pub long_value : (n : ℕ) → n < 2 ^ 18 → value_from 0 (long_decimal n) ≡ n
unfolding long_decimal
long_value n h = after 0 (place n 100000) (decimal n) (one_place n 100000 (omega arith)) ∙ five_digits n (n / 100000) refl
