-- The master's next address, as numbers of the two cells before the ring's, and the ring's cells. `TurnLaws` has that it is what the
-- section of those cells gives.
-- Assumes nothing.
use Rattle.std.specs.Prelude.{Bool, ◌&&◌, ◌||◌, List, ◌∷◌, ℕ, ◌+◌, ◌-◌, ◌*◌, ◌/◌, ◌%◌, eqb, leb, ltb, set}
use Rattle.cells.specs.Fitted.{master_of, put_next}
use Rattle.cells.specs.Layout.{master_place}
use Rattle.codec.specs.Masters.{RING, SECTION, ADDRESSES, COUNTER, SWITCH, AUT_ADR}
use Rattle.codec.specs.Rings.{around}
use Rattle.codec.specs.Window.{cell, window}
use Rattle.laws.specs.Bits.{bits, bit_at}
use Rattle.laws.specs.Pick.{pick}
use Rattle.master.specs.Ring.{address}
use Rattle.master.specs.Section.{next_of}

-- a plain section, by the ring's cell and the section's word: each number is within its limits, and an address is held where AUT ADR is
-- clear
abbrev pub turns_by : ℕ → ℕ → Bool
turns_by ring word =
    ltb ring 3264
    && ltb (ring % 64) 50
    && ltb word 8192
    && leb 2 (bits word SWITCH 5)
    && leb 1 (bits word COUNTER 5)
    && leb (bits word COUNTER 5) (bits word SWITCH 5)
    && (bit_at word AUT_ADR || leb 64 ring)

-- both, of a unit's section
abbrev pub ring_at : List ℕ → ℕ → ℕ
ring_at cells unit = cell cells (master_place unit + RING)

abbrev pub word_at : List ℕ → ℕ → ℕ
word_at cells unit = cell cells (master_place unit + SECTION)

abbrev pub turns_at : List ℕ → ℕ → Bool
turns_at cells unit = turns_by (ring_at cells unit) (word_at cells unit)

-- the word with the counter gone on
abbrev pub counted_word : ℕ → ℕ
counted_word word = pick (eqb (bits word COUNTER 5) 1) (word - 1 + bits word SWITCH 5) (word - 1)

-- the oldest address, of a section's window at a place
abbrev pub first_found : List ℕ → ℕ → ℕ → ℕ
first_found cells at ring = address (cell cells (at + ADDRESSES + ring % 64))

-- the window's cells with that at the end: the ring's cell, the word as it is, and one cell of the ring
abbrev pub went_round : List ℕ → ℕ → ℕ → ℕ → List ℕ
went_round cells at ring word =
    (around 50 (ring % 64 + 1) + ring / 64 * 64)
    ∷ word
    ∷ set (window cells (at + ADDRESSES) 50) (around 50 (ring % 64 + ring / 64)) (first_found cells at ring)

-- the address of a slice, and the cells with the section gone on to its next
abbrev pub turned_at : List ℕ → ℕ → ℕ × List ℕ
turned_at cells unit = ((next_of (master_of cells unit)).address, put_next cells unit (next_of (master_of cells unit)).side)
