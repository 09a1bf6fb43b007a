-- Document 01, The proved table: its lines on words, counts, slices and the CRC, each by computation.
-- Assumes nothing.
use Rattle.std.specs.Prelude.{◌≡◌, ℕ, false, [], ◌∷◌, map, refl}
use Rattle.std.specs.Int.Count.{ones-ones}
use Rattle.words.specs.Crc.{crc_bits, crc_word, crc_from, crc_of}
use Rattle.words.specs.Load.{count_loaded, words_left}
use Rattle.words.specs.Parity.{line, parity_of}
use Rattle.words.specs.Slices.{slices_of}
use Rattle.words.specs.declared.load.Load.{Load}

-- "parity of 0, 1, 7, 177777 (octal) is 1, 0, 0, 1": these have 0, 1, 3 and 16 ones and no zero among them
pub parity_table : map (λ (word : ℕ). line (parity_of word)) (0 ∷ 1 ∷ 7 ∷ 0o177777 ∷ []) ≡ 1 ∷ 0 ∷ 0 ∷ 1 ∷ []
parity_table = rw (ones-ones 0, ones-ones 1, ones-ones 3, ones-ones 16) refl

-- "Words left for TSBC 177776, 100000, 0 (octal, loaded): 1, 16384, 32768", whatever stood there before
pub words_left_table : (l : Load) →
    map (λ (word : ℕ). words_left (count_loaded l word)) (0o177776 ∷ 0o100000 ∷ 0 ∷ []) ≡ 1 ∷ 16384 ∷ 32768 ∷ []
words_left_table l = refl

-- and "not loaded, none left", whatever the count
pub none_left : (l : Load) → l.loaded ≡ false → words_left l ≡ 0
none_left l e = rw e refl

-- "Slices for n = 1, 128, 129, 32768: 2, 129, 132, 33279"
pub slices_table : map slices_of (1 ∷ 128 ∷ 129 ∷ 32768 ∷ []) ≡ 2 ∷ 129 ∷ 132 ∷ 33279 ∷ []
slices_table = refl

-- "CRC of no word 0, of word 1: 9001 hex"
pub crc_table : map crc_of ([] ∷ (1 ∷ []) ∷ []) ≡ 0 ∷ 0x9001 ∷ []
unfolding crc_bits crc_word crc_from
crc_table = refl
