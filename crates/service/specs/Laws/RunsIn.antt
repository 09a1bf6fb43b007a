-- A run of plain words out of a receiver's silo, taken at once, is so many single moves.
-- Assumes nothing.
use Rattle.std.specs.Prelude.{◌≡◌, List, ℕ, ◌-◌, ◌≤◌, length}
use Rattle.cells.specs.Layout.{memory_length}
use Rattle.service.specs.Transfers.{lent, words_in}

-- a run after so many words, to so many: what comes of the moves from there on, with those that are left, is what comes of them without it
pub record RunIn (unit before : ℕ) (cells memory : List ℕ) (words : ℕ) (after stored : List ℕ) : Type 0 where
  pub few : words ≤ 64
  pub length_same : memory_length after unit ≡ memory_length cells unit
  pub memory_same : length stored ≡ length memory
  pub same : words_in unit (65 - words) words (lent after stored) ≡ words_in unit (65 - before) before (lent cells memory)
