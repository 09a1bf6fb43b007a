-- Document 01, Registers: "TSBC and RDBC hold minus the bytes left, in 16 bits; bit 0 is dropped."
-- Assumes nothing.
use Rattle.std.specs.Prelude.{ℕ, ◌+◌, ◌-◌, ◌*◌, ◌/◌, ◌%◌, ◌^◌}
use Rattle.words.specs.declared.count.ByteCount.{ByteCount}
use Rattle.words.specs.declared.count.WordCount.{WordCount}

-- "Bytes and words are counted apart throughout": a number as either. `words_of` and `minus_bytes_of` are the one way from each to the other.
abbrev pub in_bytes : ℕ → ByteCount
in_bytes n = record { 0 = n }

abbrev pub in_words : ℕ → WordCount
in_words n = record { 0 = n }

-- "bit 0 is dropped", and reads back 0 (reading 6)
abbrev pub count_written : ℕ → ByteCount
count_written word = in_bytes (word / 2 * 2)

-- "Each word moved adds 2, and the sum wraps to zero on purpose": a memory move alone does (reading 7)
abbrev pub count_after_word : ByteCount → ByteCount
count_after_word count = in_bytes ((count.0 + 2) % 2 ^ 16)

-- the bytes left of a loaded count, which is minus them in 16 bits: "A written 0 means 65,536 bytes"
abbrev pub bytes_left : ByteCount → ℕ
bytes_left count = 2 ^ 16 - count.0

-- a byte count in words: two bytes to a word
abbrev pub words_of : ByteCount → WordCount
words_of count = in_words (bytes_left count / 2)

-- and back: minus the bytes of so many words, in 16 bits
abbrev pub minus_bytes_of : WordCount → ByteCount
minus_bytes_of words = in_bytes ((2 ^ 16 - words.0 * 2) % 2 ^ 16)
