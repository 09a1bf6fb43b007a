-- Document 01, Registers: a word read at one unit. Offsets below RCR are the transmitter's, but for TMMR; the others the receiver's.
-- A read that removes something puts its side back; any other leaves every cell.
-- Assumes nothing.
use Rattle.std.specs.Prelude.{List, ℕ, eqb, ltb, Result, Ok}
use Rattle.cells.specs.Fitted.{transmitter_of, receiver_of, master_of, put_transmitter, put_receiver, put_master}
use Rattle.cells.specs.Layout.{holder_in}
use Rattle.laws.specs.Pick.{pick}
use Rattle.master.specs.Reading as M
use Rattle.master.specs.declared.registers.Reading as MD
use Rattle.receiver_registers.specs.Reading as R
use Rattle.transmitter_registers.specs.Reading as T
use Rattle.words.specs.declared.answers.Refusal.{Refusal}
use Rattle.accesses.specs.Masters.{mastership_of}
use Rattle.accesses.specs.Offsets.{TMMR, RCR}

-- ---- the answer, and the cells with the side put back

abbrev pub after_transmitter : List ℕ → ℕ → T.Reading → Result ℕ Refusal × List ℕ
after_transmitter cells unit r = (r.answer, put_transmitter cells unit r.side)

abbrev pub after_receiver : List ℕ → ℕ → R.Reading → Result ℕ Refusal × List ℕ
after_receiver cells unit r = (r.answer, put_receiver cells unit r.side)

-- "TMMR read answers number 0": a word, always
abbrev pub after_master : List ℕ → ℕ → MD.Reading → Result ℕ Refusal × List ℕ
after_master cells unit r = (Ok r.word, put_master cells unit r.side)

-- ---- a side's registers

-- "TSDB read shows the oldest word, removing it only with RD SILO set"
abbrev pub transmitter_read : List ℕ → ℕ → ℕ → Result ℕ Refusal × List ℕ
transmitter_read cells unit offset =
    pick (T.removes (transmitter_of cells unit) offset) (after_transmitter cells unit (T.read_of (transmitter_of cells unit) offset))
    ((T.read_of (transmitter_of cells unit) offset).answer, cells)

-- "RDDB alike, removing it unless RC NPR is set"
abbrev pub receiver_read : List ℕ → ℕ → ℕ → Result ℕ Refusal × List ℕ
receiver_read cells unit offset =
    pick (R.removes (receiver_of cells unit) offset) (after_receiver cells unit (R.read_of (receiver_of cells unit) offset))
    ((R.read_of (receiver_of cells unit) offset).answer, cells)

-- TMMR shows MASTER, and the transmitter's CHN OPN (reading 3)
abbrev pub section_read : List ℕ → ℕ → MD.Reading
section_read cells unit =
    M.read_of (master_of cells unit) (mastership_of (holder_in cells) unit) (transmitter_of cells unit).end.opened (transmitter_of cells unit).modes.read_silo

-- "removing it only with RD SILO and AUT ADR set": RD SILO is the transmitter's
abbrev pub master_read : List ℕ → ℕ → Result ℕ Refusal × List ℕ
master_read cells unit =
    pick (M.removes (master_of cells unit) (transmitter_of cells unit).modes.read_silo) (after_master cells unit (section_read cells unit))
    (Ok (section_read cells unit).word, cells)

-- ---- a unit's registers

abbrev pub unit_read : List ℕ → ℕ → ℕ → Result ℕ Refusal × List ℕ
unit_read cells unit offset =
    pick (eqb offset TMMR) (master_read cells unit) (pick (ltb offset RCR) (transmitter_read cells unit offset) (receiver_read cells unit offset))
