-- Document 01, Registers: a word or a byte written at one unit, and its reset. A write to a register that no write
-- changes, and a low byte of TMMR written alone that is dropped, leave every cell.
-- Assumes nothing.
use Rattle.std.specs.Prelude.{◌&&◌, List, ℕ, eqb, ltb, Result, Ok}
use Rattle.cells.specs.Fitted.{transmitter_of, receiver_of, master_of, put_transmitter, put_receiver, put_master}
use Rattle.cells.specs.Layout.{holder_in, put_holder}
use Rattle.laws.specs.Pick.{pick}
use Rattle.master.specs.Side as MS
use Rattle.master.specs.Writing as M
use Rattle.master.specs.declared.registers.Written as MD
use Rattle.receiver.specs.Side as RS
use Rattle.receiver_registers.specs.Writing as R
use Rattle.transmitter.specs.Side as TS
use Rattle.transmitter_registers.specs.Writing as T
use Rattle.words.specs.declared.answers.Write.{Write}
use Rattle.words.specs.declared.answers.Refusal.{Refusal}
use Rattle.accesses.specs.Masters.{mastership_of, holder_after, released}
use Rattle.accesses.specs.Offsets.{TCR, TMMR, TMMR_HIGH, RCR}

-- ---- TX INIT and reset

-- "TX INIT also clears MASTER, SEC, NOW MST, empties the address silo and sets AUT ADR."
abbrev pub section_reset : List ℕ → ℕ → List ℕ
section_reset cells unit = put_holder (put_master cells unit (MS.initialised (master_of cells unit))) (released (holder_in cells) unit)

-- "TX INIT .. gives that side its initial state, closing only its own side of a channel" (reading 10: the whole side), but for the serial,
-- which "Only a new fit resets" (document 02, No. 6)
abbrev pub transmitter_reset : List ℕ → ℕ → List ℕ
transmitter_reset cells unit = put_transmitter (section_reset cells unit) unit (TS.initialised (transmitter_of cells unit))

-- "Reset does both sides."
abbrev pub unit_reset : List ℕ → ℕ → List ℕ
unit_reset cells unit = put_receiver (transmitter_reset cells unit) unit (RS.initialised (receiver_of cells unit))

-- ---- the answer, and the cells with the side put back

abbrev pub after_transmitter : List ℕ → ℕ → T.Written → Result Write Refusal × List ℕ
after_transmitter cells unit w = (w.answer, put_transmitter cells unit w.side)

abbrev pub after_receiver : List ℕ → ℕ → R.Written → Result Write Refusal × List ℕ
after_receiver cells unit w = (w.answer, put_receiver cells unit w.side)

-- TMMR may change who has MASTER
abbrev pub after_master : List ℕ → ℕ → MD.Written → Result Write Refusal × List ℕ
after_master cells unit w = (w.answer, put_holder (put_master cells unit w.side) (holder_after (holder_in cells) unit w.mastership))

-- ---- a word

abbrev pub transmitter_written : List ℕ → ℕ → ℕ → ℕ → Result Write Refusal × List ℕ
transmitter_written cells unit offset word =
    pick (T.changes offset) (after_transmitter cells unit (T.written (transmitter_of cells unit) offset word))
    ((T.written (transmitter_of cells unit) offset word).answer, cells)

abbrev pub receiver_written : List ℕ → ℕ → ℕ → ℕ → Result Write Refusal × List ℕ
receiver_written cells unit offset word =
    pick (R.changes offset) (after_receiver cells unit (R.written (receiver_of cells unit) offset word))
    ((R.written (receiver_of cells unit) offset word).answer, cells)

abbrev pub master_written : List ℕ → ℕ → ℕ → Result Write Refusal × List ℕ
master_written cells unit word =
    after_master cells unit
    (M.word_written (master_of cells unit) (mastership_of (holder_in cells) unit) (transmitter_of cells unit).modes.read_silo word)

-- "TX INIT .. in a write gives that side its initial state ..; the rest of the write is ignored." Then TMMR; then the offsets below RCR
-- are the transmitter's, the others the receiver's.
abbrev pub unit_written : List ℕ → ℕ → ℕ → ℕ → Result Write Refusal × List ℕ
unit_written cells unit offset word =
    pick (eqb offset TCR && T.initialises word) (Ok Write.Done, transmitter_reset cells unit)
    (pick (eqb offset TMMR) (master_written cells unit word)
    (pick (ltb offset RCR) (transmitter_written cells unit offset word)
    (receiver_written cells unit offset word)))

-- ---- a byte

abbrev pub transmitter_byte_written : List ℕ → ℕ → ℕ → ℕ → Result Write Refusal × List ℕ
transmitter_byte_written cells unit offset byte =
    pick (T.changes_byte offset) (after_transmitter cells unit (T.byte_written (transmitter_of cells unit) offset byte))
    ((T.byte_written (transmitter_of cells unit) offset byte).answer, cells)

abbrev pub receiver_byte_written : List ℕ → ℕ → ℕ → ℕ → Result Write Refusal × List ℕ
receiver_byte_written cells unit offset byte =
    pick (R.changes_byte offset) (after_receiver cells unit (R.byte_written (receiver_of cells unit) offset byte))
    ((R.byte_written (receiver_of cells unit) offset byte).answer, cells)

-- TMMR's low byte is an address, loaded or dropped (6)
abbrev pub master_low_written : List ℕ → ℕ → ℕ → Result Write Refusal × List ℕ
master_low_written cells unit byte =
    pick (M.takes_address (master_of cells unit) (transmitter_of cells unit).modes.read_silo)
    (after_master cells unit
    (M.low_byte_written (master_of cells unit) (mastership_of (holder_in cells) unit) (transmitter_of cells unit).modes.read_silo byte))
    (Ok Write.Dropped, cells)

-- its high byte has the section's bits, and no address is loaded
abbrev pub master_high_written : List ℕ → ℕ → ℕ → Result Write Refusal × List ℕ
master_high_written cells unit byte =
    after_master cells unit (M.high_byte_written (master_of cells unit) (mastership_of (holder_in cells) unit) byte)

abbrev pub unit_byte_written : List ℕ → ℕ → ℕ → ℕ → Result Write Refusal × List ℕ
unit_byte_written cells unit offset byte =
    pick (eqb offset TCR && T.initialises byte) (Ok Write.Done, transmitter_reset cells unit)
    (pick (eqb offset TMMR) (master_low_written cells unit byte)
    (pick (eqb offset TMMR_HIGH) (master_high_written cells unit byte)
    (pick (ltb offset RCR) (transmitter_byte_written cells unit offset byte)
    (receiver_byte_written cells unit offset byte))))
