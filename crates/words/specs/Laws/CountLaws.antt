-- Laws of the counts: the two conversions are inverse, each word moved is one fewer, and the last one brings the count to zero.
-- Assumes nothing.
use Rattle.std.specs.Prelude.{◌≡◌, ℕ, ◌+◌, ◌*◌, ◌%◌, ◌^◌, ◌<◌, ◌≤◌, ◌≢◌}
use Rattle.std.proofs.Common.{arith}
use Rattle.words.specs.Count.{in_bytes, in_words, count_written, count_after_word, words_of, minus_bytes_of}

pub words_of_bytes : (n : ℕ) → 1 ≤ n → n ≤ 32768 → (words_of (minus_bytes_of (in_words n))).0 ≡ n
words_of_bytes n some most = let e : (minus_bytes_of (in_words n)).0 + n * 2 ≡ 2 ^ 16 = omega arith in omega arith

module _ (count : ℕ) (fits : count < 2 ^ 16) (even : count % 2 ≡ 0) where
  pub bytes_of_words : (minus_bytes_of (words_of (in_bytes count))).0 ≡ count
  bytes_of_words = let e : (words_of (in_bytes count)).0 * 2 + count ≡ 2 ^ 16 = omega arith in omega arith

  -- a loaded count always has a word left
  pub some_left : 1 ≤ (words_of (in_bytes count)).0
  some_left = omega arith

  -- each word moved is one fewer, until the count stands at zero
  pub one_fewer : ((count_after_word (in_bytes count)).0 ≢ 0) → (words_of (count_after_word (in_bytes count))).0 + 1 ≡ (words_of (in_bytes count)).0
  one_fewer more = omega arith

  -- and it comes to zero with the last word
  pub last_word : (count_after_word (in_bytes count)).0 ≡ 0 → (words_of (in_bytes count)).0 ≡ 1
  last_word zero = omega arith

-- bit 0 stays dropped
pub written_even : (word : ℕ) → (count_written word).0 % 2 ≡ 0
written_even word = omega arith

pub after_even : (count : ℕ) → count % 2 ≡ 0 → (count_after_word (in_bytes count)).0 % 2 ≡ 0
after_even count even = omega arith
