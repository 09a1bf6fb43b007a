-- A data silo's ring by its one cell, start + 64 x length, as numbers: where a word is put, and the cell without the oldest word. `PlaceLaws`
-- has that they are what putting and taking make of it.
-- Assumes nothing.
use Rattle.std.specs.Prelude.{ℕ, ◌+◌, ◌-◌, ◌*◌, ◌/◌, ◌%◌}

-- the oldest word's place
abbrev pub front : ℕ → ℕ
front ring = ring % 64

-- the place behind the last
abbrev pub behind : ℕ → ℕ
behind ring = (ring % 64 + ring / 64) % 64

-- one word more
abbrev pub with_one : ℕ → ℕ
with_one ring = ring + 64

-- without the oldest
abbrev pub without_oldest : ℕ → ℕ
without_oldest ring = (ring % 64 + 1) % 64 + (ring / 64 - 1) * 64
