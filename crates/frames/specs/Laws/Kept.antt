-- What no call but a fit changes: the room, the count of units, the index, and every unit's own cells (its addresses and memory length). So
-- the index says what the look-through says where it did before.
-- Assumes nothing.
use Rattle.std.specs.Prelude.{true, List, ◌≡◌, refl, ℕ, ◌≤◌, length}
use Rattle.std.proofs.Common.{◌∙◌}
use Rattle.cells.specs.Index.{Indexed}
use Rattle.cells.specs.Laws.FrameLaws.{SameIndex, SameOwn}
use Rattle.cells.proofs.Laws.IndexLaws as Index
use Rattle.cells.specs.Layout.{count_in, holder_in}
use Rattle.cells.specs.Laws.RangeLaws.{in_range_says}
use Rattle.cells.specs.Ranges.{in_range}

pub record Kept (cells after : List ℕ) : Type 0 where
  pub room : length after ≡ length cells
  pub count : count_in after ≡ count_in cells
  pub index : SameIndex cells after
  pub own : SameOwn cells after

pub kept_all : (cells : List ℕ) → Kept cells cells
kept_all cells = record { room = refl; count = refl; index = λ k a h. refl; own = λ k j h. refl }

pub kept_then : (cells middle after : List ℕ) → Kept cells middle → Kept middle after → Kept cells after
kept_then cells middle after a b =
    record {
      room = b.room ∙ a.room;
      count = b.count ∙ a.count;
      index = λ k n h. b.index k n h ∙ a.index k n h;
      own = λ k j h. b.own k j h ∙ a.own k j h;
    }

pub indexed_kept : {cells after : List ℕ} → Kept cells after → Indexed cells → Indexed after
indexed_kept {cells} {after} kept = Index.indexed_kept cells after kept.index kept.count kept.own

-- in range, the master is nobody or a fitted unit
pub holder_most : (cells : List ℕ) → in_range cells ≡ true → holder_in cells ≤ count_in cells
holder_most cells ok = (in_range_says cells ok).holder
