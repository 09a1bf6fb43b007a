-- Document 01, One slice: "CRC: x^16+x^15+x^2+1, start 0, least bit first, over the words".
-- Assumes nothing.
use Rattle.std.specs.Prelude.{ℕ, zero, suc, ◌+◌, ◌-◌, ◌/◌, ◌%◌, ◌^◌, List, [], ◌∷◌, ◌==◌, bit_xor}
use Rattle.laws.specs.Pick.{pick}

-- The register has the least bit first: the coefficient of x^k stands at bit 15 - k.
abbrev power : ℕ → ℕ
power k = 2 ^ (15 - k)

-- x^15 + x^2 + 1; x^16 is the bit that is shifted out
abbrev pub polynomial : ℕ
polynomial = power 15 + power 2 + power 0

-- one bit of the message: the register is shifted, and the polynomial goes in where the bit shifted out differs from the message's
abbrev pub crc_bit : ℕ → ℕ → ℕ
crc_bit crc bit = pick (crc % 2 == bit) (crc / 2) (bit_xor (crc / 2) polynomial)

-- the n lowest bits of a word, the least first
unfoldable pub crc_bits : ℕ → ℕ → ℕ → ℕ
crc_bits zero crc word = crc
crc_bits (suc n) crc word = crc_bits n (crc_bit crc (word % 2)) (word / 2)

-- a word is sixteen bits
unfoldable pub crc_word : ℕ → ℕ → ℕ
crc_word crc word = crc_bits 16 crc word

-- over the words, one after the other
unfoldable pub crc_from : ℕ → List ℕ → ℕ
crc_from crc [] = crc
crc_from crc (word ∷ words) = crc_from (crc_word crc word) words

-- start 0
abbrev pub crc_of : List ℕ → ℕ
crc_of words = crc_from 0 words
