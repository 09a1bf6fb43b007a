-- Document 01, One slice and The master section: a slice on the lent cells.
-- Assumes nothing.
use Rattle.std.specs.Prelude.{Bool, List, ℕ, ◌-◌, eqb, ltb, Option, Some, None}
use Rattle.answering.specs.Choice.{open_with_another}
use Rattle.cells.specs.Fitted.{transmitter_of, receiver_of, master_of, put_transmitter, put_receiver, put_next}
use Rattle.cells.specs.Index.{transmitter_with, receiver_with}
use Rattle.cells.specs.Layout.{holder_in}
use Rattle.laws.specs.Pick.{pick}
use Rattle.master.specs.Section.{next_of}
use Rattle.master.specs.declared.section.Next.{Next}
use Rattle.sending.specs.Choice.{acts_on, chosen, destination_of}
use Rattle.slices.specs.Slice.{exchanged, sent_alone}
use Rattle.slices.specs.declared.Alone.{Alone}
use Rattle.slices.specs.declared.Pair.{Pair}
use Rattle.words.specs.Codes.{no_codes}
use Rattle.words.specs.declared.codes.Codes.{Codes}
use Rattle.bus.specs.Masterless.{without_master}
use Rattle.bus.specs.declared.slice.Given.{Given}

-- ---- "The receiver R addressed, first that fits"

-- Rule 1: "None, or open with another: B 00, no change." T alone is put back.
abbrev pub put_alone : List ℕ → ℕ → Alone → Codes × List ℕ
put_alone cells unit a = (a.codes, put_transmitter cells unit a.transmitter)

abbrev pub unheard : List ℕ → ℕ → Codes × List ℕ
unheard cells unit = put_alone cells unit (sent_alone (transmitter_of cells unit))

-- by any other rule T and R are put back; they may be of one unit
abbrev pub put_pair : List ℕ → ℕ → ℕ → Pair → Codes × List ℕ
put_pair cells unit other p = (p.codes, put_receiver (put_transmitter cells unit p.transmitter) other p.receiver)

abbrev pub heard_by : List ℕ → ℕ → ℕ → ℕ → ℕ → Bool → Codes × List ℕ
heard_by cells unit other from mask parity =
    pick (open_with_another (receiver_of cells other) from) (unheard cells unit)
    (put_pair cells unit other (exchanged (transmitter_of cells unit) (receiver_of cells other) from mask parity))

-- R is that of the unit that the index has for the receiver address; 16 where there is none. A closed T's destination is that of TCR, an open one's
-- the latched one (reading 29).
abbrev pub heard_or : List ℕ → ℕ → ℕ → ℕ → ℕ → Bool → Codes × List ℕ
heard_or cells unit other from mask parity = pick (ltb other 16) (heard_by cells unit other from mask parity) (unheard cells unit)

abbrev pub acting_slice : List ℕ → ℕ → ℕ → ℕ → Bool → Codes × List ℕ
acting_slice cells unit from mask parity =
    heard_or cells unit (receiver_with cells (destination_of (transmitter_of cells unit))) from mask parity

-- ---- "T is the transmitter addressed (or none: idle, A and B 00, nothing else)." An address whose entry names no unit, from a fit on 0 too, is an idle
-- slice with that address (reading 19).

-- "T acts if ..; else idle"
abbrev pub slice_of : List ℕ → ℕ → ℕ → ℕ → Bool → Codes × List ℕ
slice_of cells unit from mask parity =
    pick (acts_on (chosen (transmitter_of cells unit))) (acting_slice cells unit from mask parity) (no_codes, cells)

abbrev pub given : ℕ → Codes × List ℕ → Given × List ℕ
given address p = (record { address = address; codes = p.0 }, p.1)

-- T is that of the unit that the index has for the transmitter address; 16 where there is none
abbrev pub served_or : List ℕ → ℕ → ℕ → ℕ → Bool → Given × List ℕ
served_or cells unit address mask parity = pick (ltb unit 16) (given address (slice_of cells unit address mask parity)) (given address (no_codes, cells))

abbrev pub served : List ℕ → ℕ → ℕ → Bool → Given × List ℕ
served cells address mask parity = served_or cells (transmitter_with cells address) address mask parity

-- ---- the master's next address, "counter mode" or "each slice takes the oldest address and returns it to the end", and its slice: only
-- the master's counter or silo steps (reading 20)

abbrev pub after_next : List ℕ → ℕ → Next → ℕ → Bool → Given × List ℕ
after_next cells unit next mask parity = served (put_next cells unit next.side) next.address mask parity

abbrev pub master_slice : List ℕ → ℕ → ℕ → Bool → Given × List ℕ
master_slice cells unit mask parity = after_next cells unit (next_of (master_of cells unit)) mask parity

-- "A slice with no master: .. Answer 8, nothing sent." Before any fit there is none (reading 20).
abbrev pub slot_of : Given × List ℕ → Option Given × List ℕ
slot_of p = (Some p.0, p.1)

abbrev pub slice_passed : List ℕ → ℕ → Bool → Option Given × List ℕ
slice_passed cells mask parity =
    pick (eqb (holder_in cells) 0) (None, without_master cells) (slot_of (master_slice cells (holder_in cells - 1) mask parity))
