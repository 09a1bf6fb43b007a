-- Bits of a word, by their places: bit 0 is the lowest.
-- Assumes nothing.
use Rattle.std.specs.Prelude.{Bool, true, false, ℕ, zero, suc, ◌*◌, ◌/◌, ◌%◌, ◌^◌, eqb}

-- a flag as a bit, and back
abbrev pub bit : Bool → ℕ
bit true = 1
bit false = 0

abbrev pub on : ℕ → Bool
on n = eqb n 1

-- the n bits of a word from bit k on: at a numeral k this computes to word % 2 ^ n, or to word / 2 ^ k % 2 ^ n
abbrev pub bits : ℕ → ℕ → ℕ → ℕ
bits word zero n = word % 2 ^ n
bits word (suc k) n = word / 2 ^ suc k % 2 ^ n

-- whether a word has the bit at a place
abbrev pub bit_at : ℕ → ℕ → Bool
bit_at word place = on (bits word place 1)

-- a word with a flag at a place, and no other bit
abbrev pub set_at : ℕ → Bool → ℕ
set_at place flag = bit flag * 2 ^ place
