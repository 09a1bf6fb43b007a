-- Document 01, Registers: "TMMR read answers number 0 and shows the oldest address, or 0, removing it only with RD SILO and AUT ADR
-- set."
-- Assumes nothing.
use Rattle.std.specs.Prelude.{Bool, not, ◌&&◌, ℕ, ◌+◌}
use Rattle.laws.specs.Bits.{set_at}
use Rattle.laws.specs.Pick.{pick}
use Rattle.silos.specs.Silo.{is_empty, oldest, taken}
use Rattle.words.specs.Bits.TMMR
use Rattle.master.specs.Ring.{address}
use Rattle.master.specs.Section.{has_master}
use Rattle.master.specs.Side.{with_addresses}
use Rattle.master.specs.Writing.{takes_address}
use Rattle.master.specs.declared.registers.Reading.{Reading}
use Rattle.master.specs.declared.side.Master.{Master}
use Rattle.master.specs.declared.side.Mastership.{Mastership}

-- TMMR: the address silo's output at bits 0 to 4, and the flags at their places; bits 5 to 7 and CLR ADR read 0 (reading 4)
abbrev pub tmmr_of : Master → ℕ → Bool → Bool → Bool → Bool → ℕ
tmmr_of m output master opened input_ready output_ready =
    output
    + set_at TMMR.MASTER master
    + set_at TMMR.SEC m.secondary
    + set_at TMMR.NOW_MST m.now_master
    + set_at TMMR.CHN_OPN opened
    + set_at TMMR.AUT_ADR m.auto_address
    + set_at TMMR.AIP_RDY input_ready
    + set_at TMMR.AOP_RDY output_ready

-- "shows the oldest address, or 0"; AIP RDY: an address would be taken now; AOP RDY: at least one is held, in either mode (reading 3)
abbrev pub tmmr_word : Master → Mastership → Bool → Bool → ℕ
tmmr_word m mastership opened reading =
    tmmr_of m (address (oldest m.addresses)) (has_master mastership) opened (takes_address m reading) (not (is_empty m.addresses))

-- "removing it only with RD SILO and AUT ADR set": where one is held
abbrev pub removes : Master → Bool → Bool
removes m reading = reading && m.auto_address && not (is_empty m.addresses)

abbrev pub removed : Master → Bool → Master
removed m reading = pick (removes m reading) (with_addresses m (taken m.addresses)) m

-- what stood before the removal is shown (reading 9)
abbrev pub read_of : Master → Mastership → Bool → Bool → Reading
read_of m mastership opened reading = record { word = tmmr_word m mastership opened reading; side = removed m reading }
