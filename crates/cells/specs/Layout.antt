-- Where everything lies in the lent cells: a header of 66 cells, and a block of 202 for each fitted unit. docs/STATE.md has the table.
-- Assumes nothing.
use Rattle.std.specs.Prelude.{List, [], ◌∷◌, ℕ, ◌+◌, ◌-◌, ◌*◌, ◌/◌, ◌%◌, ◌^◌, min, set, eqb, Option, Some, None}
use Rattle.codec.specs.Masters.{SECTION, SEC}
use Rattle.codec.specs.Window.{cell}
use Rattle.laws.specs.Bits.{bits}
use Rattle.laws.specs.Pick.{pick}

-- ---- the header

-- the count of units
abbrev pub COUNT : ℕ
COUNT = 0

-- who is master: 0 nobody, else the unit's number + 1
abbrev pub HOLDER : ℕ
HOLDER = 1

abbrev pub count_in : List ℕ → ℕ
count_in cells = cell cells COUNT

abbrev pub holder_in : List ℕ → ℕ
holder_in cells = cell cells HOLDER

-- the unit that such a cell names, and the cell of a master
abbrev pub held_by : ℕ → Option ℕ
held_by holder = pick (eqb holder 0) None (Some (holder - 1))

abbrev pub holder_of : Option ℕ → ℕ
holder_of None = 0
holder_of (Some unit) = unit + 1

abbrev pub put_holder : List ℕ → ℕ → List ℕ
put_holder cells holder = set cells HOLDER holder

-- the index's entry for the number a, which has 5 bits: as a transmitter address where k is 0, as a receiver address where it is 1
abbrev pub INDEX : ℕ
INDEX = 2

abbrev pub entry_place : ℕ → ℕ → ℕ
entry_place k a = INDEX + k * 32 + a % 32

abbrev pub entry_in : List ℕ → ℕ → ℕ → ℕ
entry_in cells k a = cell cells (entry_place k a)

-- ---- a unit's block: 4 cells of its own, 73 of its transmitter, 73 of its receiver, 52 of its master section

abbrev pub unit_place : ℕ → ℕ
unit_place u = 66 + u * 202

abbrev pub transmitter_place : ℕ → ℕ
transmitter_place u = unit_place u + 4

abbrev pub receiver_place : ℕ → ℕ
receiver_place u = unit_place u + 77

abbrev pub master_place : ℕ → ℕ
master_place u = unit_place u + 150

-- ---- a unit's own cells

-- transmitter address - 1
abbrev pub SENDS_AS : ℕ
SENDS_AS = 0

-- receiver address - 1
abbrev pub RECEIVES_AS : ℕ
RECEIVES_AS = 1

-- memory length - 1: what stands above 16 bits, and the low 16 bits
abbrev pub MEMORY_HIGH : ℕ
MEMORY_HIGH = 2

abbrev pub MEMORY_LOW : ℕ
MEMORY_LOW = 3

abbrev pub own_cell : List ℕ → ℕ → ℕ → ℕ
own_cell cells k u = cell cells (unit_place u + k)

-- "addresses are 1 to 31": a cell above 30 reads as 31
abbrev pub address_in : List ℕ → ℕ → ℕ → ℕ
address_in cells k u = min 30 (own_cell cells k u) + 1

abbrev pub transmitter_address : List ℕ → ℕ → ℕ
transmitter_address cells u = address_in cells SENDS_AS u

abbrev pub receiver_address : List ℕ → ℕ → ℕ
receiver_address cells u = address_in cells RECEIVES_AS u

-- "a host memory of 1 to 131,072 words": what stands above 16 bits is one bit, and more of it reads by the remainder
abbrev pub memory_length : List ℕ → ℕ → ℕ
memory_length cells u = own_cell cells MEMORY_HIGH u % 2 * 2 ^ 16 + own_cell cells MEMORY_LOW u % 2 ^ 16 + 1

-- the four cells of two addresses and a memory length
abbrev pub enc_unit : ℕ → ℕ → ℕ → List ℕ
enc_unit transmitter receiver memory = (transmitter - 1) ∷ (receiver - 1) ∷ (memory - 1) / 2 ^ 16 ∷ (memory - 1) % 2 ^ 16 ∷ []

-- ---- SEC of its master section: 0 or 1

abbrev pub secondary_in : List ℕ → ℕ → ℕ
secondary_in cells u = bits (cell cells (master_place u + SECTION)) SEC 1
