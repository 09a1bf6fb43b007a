-- The nine cells of a side's head, each by its name: `Ends` says what they mean.
-- Assumes nothing.
use Rattle.std.specs.Prelude.{List, [], ◌∷◌, ℕ, ◌+◌}
use Rattle.codec.specs.Ends.{BLOCK, OWN, LOW, COUNT, CONTROL, STATUS, CRC, SERIAL}
use Rattle.codec.specs.Window.{cell}
use Rattle.codec.specs.declared.head.Head.{Head}

-- the head at a place of the cells
abbrev pub head_in : List ℕ → ℕ → Head
head_in cells at =
    record {
      ring = cell cells at;
      block = cell cells (at + BLOCK);
      own = cell cells (at + OWN);
      low = cell cells (at + LOW);
      count = cell cells (at + COUNT);
      control = cell cells (at + CONTROL);
      status = cell cells (at + STATUS);
      crc = cell cells (at + CRC);
      serial = cell cells (at + SERIAL);
    }

-- with its load so many words on, in address and in count
abbrev pub moved_on : Head → ℕ → Head
moved_on h words = record h { low = h.low + words; count = h.count + words }

-- its cells, in their order
abbrev pub cells_of : Head → List ℕ
cells_of h = h.ring ∷ h.block ∷ h.own ∷ h.low ∷ h.count ∷ h.control ∷ h.status ∷ h.crc ∷ h.serial ∷ []
