-- ERR "is the or of the register's error bits", bits 9 to 14 of TSR and of RSR: none stands where the six together are 0.
-- Assumes nothing.
use Rattle.std.specs.Prelude.{Bool, true, false, not, ◌&&◌, ◌||◌, ◌≡◌, refl, ℕ, zero, suc, ◌+◌, ◌*◌, ◌/◌, ◌%◌, ◌^◌, ◌<◌, min, eqb, leb}
use Rattle.std.proofs.Common.{sym, ◌∙◌, arith, eq-eqb, ne_eqb, eqb-true, leb-true, leb-false, shr-shr}
use Rattle.std.proofs.lemmas.Bool.{eqb-false, not-true}
use Rattle.std.proofs.lemmas.Nat.{mod-pow-add}
use Rattle.laws.specs.Bits.{on, bits, bit_at}
use Rattle.laws.specs.Pick.{by}

-- ---- tests of 0

-- two numbers of which each is 0 where the other is
same_zero : (a b : ℕ) → (a ≡ 0 → b ≡ 0) → (b ≡ 0 → a ≡ 0) → eqb a 0 ≡ eqb b 0
same_zero a b f g =
    by (eqb a 0) (λ e. e ∙ sym (eq-eqb b 0 (f (eqb-true a 0 e)))) (λ e. e ∙ sym (ne_eqb b 0 (λ z. eqb-false a 0 e (g z))))

-- a number is 0 where its lowest bit is 0 and the others are
zero_by : (x b : ℕ) → b < 2 → eqb (x * 2 + b) 0 ≡ not (on b) && eqb x 0
zero_by x zero h = same_zero (x * 2 + 0) x (λ (z : x * 2 + 0 ≡ 0). omega arith) (λ (z : x ≡ 0). omega arith)
zero_by x (suc zero) h = ne_eqb (x * 2 + 1) 0 (λ (z : x * 2 + 1 ≡ 0). omega arith)
zero_by x (suc (suc b)) h = absurd (omega arith)

-- so for the bits of a word from a place on
none_from : (s k n : ℕ) → eqb (s / 2 ^ k % 2 ^ (n + 1)) 0 ≡ not (on (s / 2 ^ k % 2)) && eqb (s / 2 ^ (k + 1) % 2 ^ n) 0
none_from s k n =
    rw (mod-pow-add (s / 2 ^ k) n 1, shr-shr s k 1) (zero_by (s / 2 ^ (k + 1) % 2 ^ n) (s / 2 ^ k % 2) (omega arith))

none_of : (a b c d e f : Bool) → not a && (not b && (not c && (not d && (not e && (not f && true))))) ≡ not (a || b || c || d || e || f)
none_of true b c d e f = refl
none_of false true c d e f = refl
none_of false false true d e f = refl
none_of false false false true e f = refl
none_of false false false false true f = refl
none_of false false false false false true = refl
none_of false false false false false false = refl

pub no_fault : (s : ℕ) → eqb (bits s 9 6) 0 ≡ not (bit_at s 9 || bit_at s 10 || bit_at s 11 || bit_at s 12 || bit_at s 13 || bit_at s 14)
no_fault s =
    rw (none_from s 9 5, none_from s 10 4, none_from s 11 3, none_from s 12 2, none_from s 13 1, none_from s 14 0, eq-eqb (s / 2 ^ 15 % 1) 0 (omega arith))
    (none_of (bit_at s 9) (bit_at s 10) (bit_at s 11) (bit_at s 12) (bit_at s 13) (bit_at s 14))

pub faultless : (s : ℕ) → bits s 9 6 ≡ 0 → (bit_at s 9 || bit_at s 10 || bit_at s 11 || bit_at s 12 || bit_at s 13 || bit_at s 14) ≡ false
faultless s z = not-true _ (sym (no_fault s) ∙ eq-eqb (bits s 9 6) 0 z)

-- a word is held where the ring's cell has a length above 0
pub some_held : (ring : ℕ) → leb 64 ring ≡ not (eqb (min 64 (ring / 64)) 0)
some_held ring =
    by (leb 64 ring)
    (λ e. let h = leb-true 64 ring e in rw (e, ne_eqb (min 64 (ring / 64)) 0 (λ (z : min 64 (ring / 64) ≡ 0). omega arith)))
    (λ e. let h = leb-false 64 ring e in rw (e, eq-eqb (min 64 (ring / 64)) 0 (omega arith)))
