-- Demand 3: a message of n words succeeds on its transmitter's slice "n - 1 + 2 x (n/128 rounded up) after the opening".
-- Assumes nothing.
use Rattle.std.specs.Prelude.{ℕ, ◌+◌, ◌-◌, ◌*◌, ◌/◌}

-- n/128 rounded up: the CRCs of a message, one after each 128 words and one after the last
abbrev pub blocks_of : ℕ → ℕ
blocks_of n = (n + 127) / 128

abbrev pub slices_of : ℕ → ℕ
slices_of n = n - 1 + 2 * blocks_of n
