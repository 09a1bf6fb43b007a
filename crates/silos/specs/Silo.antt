-- A silo, of any size up to its cells. Document 01, The link: "Data silos hold 64 words, address silos 50."
-- Other crates go by these definitions and by the laws of `Laws`, and but for `codec`, which lays the words in cells, never look at the cells.
-- Assumes nothing.
use Rattle.std.specs.Prelude.{Bool, List, ℕ, ◌+◌, ◌-◌, ◌≤◌, ◌≡◌, eqb, ltb, get_or, length, replicate, set, take, drop}
use Rattle.laws.specs.Pick.{pick}
use Rattle.silos.specs.Cells.{shifted}
use Rattle.silos.specs.declared.Silo.{Silo}

-- the values a silo of a size may take: it is its words in order, and behind them there is nothing but zeros, so that two silos with
-- the same words are the same (`Laws`, `same_words`)
pub record Sized (size : ℕ) (s : Silo) : Type 0 where
  pub most : s.held ≤ size
  pub cells64 : length s.cells ≡ 64
  pub rest : drop s.held s.cells ≡ replicate (64 - s.held) 0

-- what it holds, the oldest first
abbrev pub words : Silo → List ℕ
words s = take s.held s.cells

abbrev pub no_words : Silo
no_words = record { cells = replicate 64 0; held = 0 }

-- how many it holds
abbrev pub count : Silo → ℕ
count s = s.held

abbrev pub is_empty : Silo → Bool
is_empty s = eqb s.held 0

abbrev pub has_room : ℕ → Silo → Bool
has_room size s = ltb s.held size

-- the oldest word, or 0
abbrev pub oldest : Silo → ℕ
oldest s = pick (is_empty s) 0 (get_or s.cells 0 0)

-- one word more at the end; a full silo takes none
abbrev pub put : ℕ → Silo → ℕ → Silo
put size s word = pick (has_room size s) (record { cells = set s.cells s.held word; held = s.held + 1 }) s

-- without the oldest; an empty silo stays
abbrev pub taken : Silo → Silo
taken s = pick (is_empty s) s (record { cells = shifted s.cells; held = s.held - 1 })
