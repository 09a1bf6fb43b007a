-- The ranges of document 01's number 9: the header, and room. Whatever the other cells hold has a meaning. At a move they also say how
-- much memory is asked (`pcl`, `Sides`).
-- Assumes nothing.
use Rattle.std.specs.Prelude.{Bool, ◌&&◌, List, ℕ, leb, length}
use Rattle.cells.specs.Layout.{count_in, holder_in, unit_place}

-- A lent state is in range: it has room for its header; it counts at most 16 units, and has room for those; and the master is nobody or
-- one of them.
unfoldable pub in_range : List ℕ → Bool
in_range cells =
    leb 66 (length cells) && leb (count_in cells) 16 && leb (unit_place (count_in cells)) (length cells) && leb (holder_in cells) (count_in cells)
