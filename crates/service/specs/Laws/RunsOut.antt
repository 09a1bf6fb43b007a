-- A run of plain words into a transmitter's silo, put there at once, is so many single moves.
-- Assumes nothing.
use Rattle.std.specs.Prelude.{◌≡◌, List, ℕ, ◌-◌, ◌≤◌}
use Rattle.cells.specs.Layout.{memory_length}
use Rattle.service.specs.Transfers.{lent, words_out}

-- a run after so many words, to so many: what comes of the moves from there on, with those that are left, is what comes of them without it
pub record RunOut (unit : ℕ) (memory : List ℕ) (before : ℕ) (cells : List ℕ) (words : ℕ) (after : List ℕ) : Type 0 where
  pub few : words ≤ 64
  pub length_same : memory_length after unit ≡ memory_length cells unit
  pub same : words_out unit (65 - words) words (lent after memory) ≡ words_out unit (65 - before) before (lent cells memory)
