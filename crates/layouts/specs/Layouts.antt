-- A layout is how a call leaves the words in the cells: the call is done, and then its words are laid so.
-- Assumes nothing.
use Rattle.std.specs.Prelude.{true, List, ◌≡◌, ℕ}
use Rattle.cells.specs.Ranges.{in_range}
use Rattle.layouts.specs.Same.{Same}
use Rattle.layouts.specs.Shifting.{all_shifted}
use Rattle.layouts.specs.Laws.Sames.{same_all}
use Rattle.layouts.specs.Laws.Shifting.{shifted_same}

pub record Layout : Type 0 where
  pub lay : List ℕ → List ℕ
  -- a valid state reads after it as before
  pub same : (cells : List ℕ) → in_range cells ≡ true → Same cells (lay cells)

-- "Keep each silo with a start place and a length, going round at its end": the words stay where the link leaves them
abbrev pub going_round : Layout
going_round = record { lay = λ cells. cells; same = λ cells ok. same_all ok }

-- "the shifting layout": the oldest word of every silo in its first cell
abbrev pub shifting : Layout
shifting = record { lay = all_shifted; same = shifted_same }
