-- Document 01, Registers: "The odd offset above is the high byte." A byte write changes its half and keeps the other (reading 6).
-- Assumes nothing.
use Rattle.std.specs.Prelude.{ℕ, ◌+◌, ◌*◌, ◌/◌, ◌%◌, ◌==◌}
use Rattle.laws.specs.Pick.{pick}

-- the offset of the register that a byte offset belongs to
abbrev pub even_below : ℕ → ℕ
even_below offset = offset / 2 * 2

abbrev pub with_half : ℕ → ℕ → ℕ → ℕ
with_half word offset byte = pick (offset % 2 == 1) (word % 256 + byte * 256) (word / 256 * 256 + byte)
