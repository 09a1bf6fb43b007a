-- What one more word adds to the slices of a message.
-- Assumes nothing.
use Rattle.std.specs.Prelude.{◌≡◌, ℕ, ◌+◌, ◌%◌, ◌≤◌, refl}
use Rattle.std.proofs.Common.{arith}
use Rattle.words.specs.Slices.{slices_of}

pub one_word : slices_of 1 ≡ 2
one_word = refl

-- off a multiple of 128, its own slice
pub same_block : (n : ℕ) → 1 ≤ n → 1 ≤ n % 128 → slices_of (n + 1) ≡ slices_of n + 1
same_block n some off = omega arith

-- at a multiple of 128, its own slice and the two of the CRC that is now due before it
pub new_block : (n : ℕ) → 1 ≤ n → n % 128 ≡ 0 → slices_of (n + 1) ≡ slices_of n + 3
new_block n some at = omega arith
