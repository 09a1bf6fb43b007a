-- Two lent states that read alike, however words lie in their cells: the same room, the same units, the same answers of the index, the
-- same master, and the same sides, in which a silo is its words in order.
-- Assumes nothing.
use Rattle.std.specs.Prelude.{true, List, ◌≡◌, ℕ, ◌<◌, length}
use Rattle.cells.specs.Index.{unit_with}
use Rattle.cells.specs.Layout.{count_in, transmitter_address, receiver_address, memory_length}
use Rattle.cells.specs.Ranges.{in_range}
use Rattle.frames.specs.Laws.Leaves.{Agree}
use Rattle.frames.specs.Laws.Sides.{sides_of}
use Rattle.promise.specs.World.{World}

-- a unit's own numbers
pub record SameNumbers (cells other : List ℕ) (unit : ℕ) : Type 0 where
  pub sends_as : transmitter_address other unit ≡ transmitter_address cells unit
  pub receives_as : receiver_address other unit ≡ receiver_address cells unit
  pub memory : memory_length other unit ≡ memory_length cells unit

pub record Same (cells other : List ℕ) : Type 0 where
  pub ranged : in_range cells ≡ true
  pub other_ranged : in_range other ≡ true
  pub room : length other ≡ length cells
  pub count : count_in other ≡ count_in cells
  -- which unit has an address: as a transmitter's where k is 0, as a receiver's where it is 1
  pub index : (k a : ℕ) → k < 2 → unit_with other k a ≡ unit_with cells k a
  pub own : (unit : ℕ) → unit < count_in cells → SameNumbers cells other unit
  -- who is master, and each fitted unit's transmitter, receiver and master section
  pub sides : Agree (count_in cells) (sides_of cells) (sides_of other)

-- Two worlds whose lent states are so, with the same words in every unit's memory
pub record SameWorld (w other : World) : Type 0 where
  pub cells : Same w.cells other.cells
  pub memory : (unit : ℕ) → other.memory unit ≡ w.memory unit
