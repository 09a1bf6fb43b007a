-- Document 02, No. 8: an index from transmitter address to unit and from receiver address to unit, in the header. A fit fills it, and no
-- other call changes it (`outcomes`, `Addresses`).
-- Assumes nothing.
use Rattle.std.specs.Prelude.{List, [], ◌∷◌, ◌≡◌, ℕ, zero, suc, ◌/◌, ◌%◌, ◌<◌, ltb}
use Rattle.codec.specs.Window.{splice}
use Rattle.laws.specs.Pick.{pick}
use Rattle.cells.specs.Layout.{SENDS_AS, RECEIVES_AS, INDEX, address_in, count_in, entry_in}
use Rattle.cells.specs.Search.{first_found, first_transmitter, first_receiver}

-- ---- who has that address

-- an entry is a unit's number; where that is no fitted unit's, there is none: 16
abbrev pub unit_with : List ℕ → ℕ → ℕ → ℕ
unit_with cells k a = pick (ltb (entry_in cells k a) (count_in cells)) (entry_in cells k a) 16

abbrev pub transmitter_with : List ℕ → ℕ → ℕ
transmitter_with cells a = unit_with cells SENDS_AS a

abbrev pub receiver_with : List ℕ → ℕ → ℕ
receiver_with cells a = unit_with cells RECEIVES_AS a

-- "Its answer equals the full look-through for all 32 numbers, including 0 and the unused ones."
pub record Indexed (cells : List ℕ) : Type 0 where
  pub transmitter : (a : ℕ) → a < 32 → transmitter_with cells a ≡ first_transmitter cells (count_in cells) a
  pub receiver : (a : ℕ) → a < 32 → receiver_with cells a ≡ first_receiver cells (count_in cells) a

-- ---- "filled at fit": each entry is what the look-through finds

-- f a, f (a + 1), and so on: n of them
unfoldable pub row : (ℕ → ℕ) → ℕ → ℕ → List ℕ
row f zero a = []
row f (suc n) a = f a ∷ row f n (suc a)

-- 32 by the transmitter address, and then 32 by the receiver address
abbrev pub looked_through : List ℕ → ℕ → ℕ
looked_through cells i = first_found (address_in cells (i / 32)) (i % 32) (count_in cells) 0

abbrev pub put_index : List ℕ → List ℕ
put_index cells = splice cells INDEX (row (looked_through cells) 64 0)
