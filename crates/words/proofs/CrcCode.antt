-- The word put in first and sixteen shifts are its bits taken one by one (`word_in`).
-- Assumes nothing.
use Rattle.std.proofs.Common.{◌≡◌, ℕ, zero, suc, ◌/◌, ◌%◌, ◌^◌, ◌<◌, Bool, true, false, eqb, sym, refl, ap, ◌∙◌, div-one, one-add, arith, shr-shr, eq-eqb, ne_eqb, eqb-true}
use native.Mathlib.Nat.{div-eq_of_lt}
use borrow.Author.Tests.{eqb-false}
use lib.Arith.{bin_ind}
use lib.Bits.{bit_xor, xor_add_and, xor_shr, xor_comm, xor_zero_r}
use Rattle.words.specs.Crc.{polynomial, crc_bit, crc_bits, crc_word}
use Rattle.words.specs.Laws.CrcSteps.{step, steps}

-- ---- xor: its half is the halves', and its last bit that of the sum

half : (a b : ℕ) → bit_xor a b / 2 ≡ bit_xor (a / 2) (b / 2)
half a b = xor_shr a b 1

pub xor_assoc : (a b c : ℕ) → bit_xor (bit_xor a b) c ≡ bit_xor a (bit_xor b c)
xor_assoc =
    bin_ind (λ (a : ℕ). (b c : ℕ) → bit_xor (bit_xor a b) c ≡ bit_xor a (bit_xor b c)) (λ b c. refl)
    (λ a ih b c.
    let h : bit_xor (bit_xor a b) c / 2 ≡ bit_xor a (bit_xor b c) / 2 = simp half (ih (b / 2) (c / 2)) in
    omega (arith, xor_add_and (bit_xor a b) c, xor_add_and a b, xor_add_and a (bit_xor b c), xor_add_and b c))

-- ---- one bit

-- the bit that goes out of the register with w in it is 0 where the register's own and w's are the same
same_bit : (c w : ℕ) (t : Bool) → eqb (c % 2) (w % 2) ≡ t → eqb (bit_xor c w % 2) 0 ≡ t
same_bit c w true e = eq-eqb (bit_xor c w % 2) 0 (omega (arith, xor_add_and c w, eqb-true (c % 2) (w % 2) e))
same_bit c w false e = ne_eqb _ _ (λ (q : bit_xor c w % 2 ≡ 0). eqb-false (c % 2) (w % 2) e (omega (arith, xor_add_and c w)))

bit_in : (c w : ℕ) (t : Bool) → eqb (c % 2) (w % 2) ≡ t → step (bit_xor c w) ≡ bit_xor (crc_bit c (w % 2)) (w / 2)
bit_in c w true e = simp (same_bit c w true e, e, half)
bit_in c w false e = simp (same_bit c w false e, e, half, xor_assoc) (ap (bit_xor (c / 2)) (xor_comm (w / 2) polynomial))

-- ---- n bits

comm : (n c : ℕ) → steps n (step c) ≡ step (steps n c)
unfolding steps
comm zero c = refl
comm (suc n) c = ap step (comm n c)

in_then_shift : (n c w : ℕ) → steps n (bit_xor c w) ≡ bit_xor (crc_bits n c w) (w / 2 ^ n)
unfolding steps crc_bits
in_then_shift zero c w = simp div-one
in_then_shift (suc n) c w =
    sym (comm n (bit_xor c w)) ∙ ap (steps n) (bit_in c w _ refl) ∙ in_then_shift n (crc_bit c (w % 2)) (w / 2)
    ∙ ap (bit_xor (crc_bits (suc n) c w)) (shr-shr w 1 n ∙ simp one-add)

-- of a word of sixteen bits nothing is left
pub word_in : (c w : ℕ) → w < 2 ^ 16 → steps 16 (bit_xor c w) ≡ crc_word c w
unfolding crc_word
word_in c w h = in_then_shift 16 c w ∙ simp (div-eq_of_lt h, xor_zero_r)
