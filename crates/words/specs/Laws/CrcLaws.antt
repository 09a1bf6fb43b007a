-- Laws of the CRC for the crates above: it stays a word, words join on, and a message followed by its own CRC leaves 0.
-- Assumes nothing.
use Rattle.std.specs.Prelude.{◌≡◌, ℕ, zero, suc, ◌/◌, ◌%◌, ◌^◌, ◌<◌, List, [], ◌∷◌, ◌++◌, ◌==◌, refl}
use Rattle.std.proofs.Common.{◌∙◌, div-one, one-add, arith, eq-eqb, lit<, shr-shr}
use Rattle.std.proofs.Math.Nat.{div-eq_of_lt}
use Rattle.std.proofs.lemmas.Nat.{xor_lt}
use Rattle.laws.specs.Pick.{either}
use Rattle.words.specs.Crc.{polynomial, crc_bit, crc_bits, crc_word, crc_from, crc_of}

-- ---- it stays a word

bit_lt : (c b : ℕ) → c < 2 ^ 16 → crc_bit c b < 2 ^ 16
bit_lt c b h =
    either (λ (x : ℕ). x < 2 ^ 16) (c % 2 == b) (λ e. omega arith) (λ e. xor_lt 16 (c / 2) polynomial (omega arith) (lit< tt))

bits_lt : (n c w : ℕ) → c < 2 ^ 16 → crc_bits n c w < 2 ^ 16
unfolding crc_bits
bits_lt zero c w h = h
bits_lt (suc n) c w h = bits_lt n (crc_bit c (w % 2)) (w / 2) (bit_lt c (w % 2) h)

pub word_lt : (c w : ℕ) → c < 2 ^ 16 → crc_word c w < 2 ^ 16
unfolding crc_word
word_lt = bits_lt 16

pub from_lt : (c : ℕ) (ws : List ℕ) → c < 2 ^ 16 → crc_from c ws < 2 ^ 16
unfolding crc_from
from_lt c [] h = h
from_lt c (w ∷ ws) h = from_lt (crc_word c w) ws (word_lt c w h)

-- ---- words join on

pub from_append : (c : ℕ) (ws vs : List ℕ) → crc_from c (ws ++ vs) ≡ crc_from (crc_from c ws) vs
unfolding crc_from
from_append c [] vs = refl
from_append c (w ∷ ws) vs = from_append (crc_word c w) ws vs

pub from_one : (c w : ℕ) → crc_from c (w ∷ []) ≡ crc_word c w
unfolding crc_from
from_one c w = refl

-- one word more
pub of_snoc : (ws : List ℕ) (w : ℕ) → crc_of (ws ++ (w ∷ [])) ≡ crc_word (crc_of ws) w
of_snoc ws w = from_append 0 ws (w ∷ []) ∙ from_one (crc_of ws) w

-- ---- a register that is given its own bits is shifted out

own_bits : (n c : ℕ) → crc_bits n c c ≡ c / 2 ^ n
unfolding crc_bits
own_bits zero c = simp div-one
own_bits (suc n) c = simp (eq-eqb (c % 2) (c % 2) refl) (own_bits n (c / 2) ∙ shr-shr c 1 n ∙ simp one-add)

own_word : (c : ℕ) → c < 2 ^ 16 → crc_word c c ≡ 0
unfolding crc_word
own_word c h = own_bits 16 c ∙ div-eq_of_lt h

pub own_crc : (ws : List ℕ) → crc_of (ws ++ (crc_of ws ∷ [])) ≡ 0
own_crc ws = of_snoc ws (crc_of ws) ∙ own_word (crc_of ws) (from_lt 0 ws (lit< tt))
