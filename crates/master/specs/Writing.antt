-- Document 01, Registers: "TMMR write: high byte first (CLR ADR empties the address silo before AUT ADR is looked at); then the low
-- byte, if included, is loaded as an address (mod 32), or dropped (6) if AUT ADR is clear, RD SILO set or 50 held."
-- Assumes nothing.
use Rattle.std.specs.Prelude.{Bool, true, false, not, ◌&&◌, ◌||◌, ℕ, ◌*◌, ◌%◌, ◌^◌, Result, Ok}
use Rattle.laws.specs.Bits.{bit_at}
use Rattle.laws.specs.Pick.{pick}
use Rattle.silos.specs.Silo.{no_words, is_empty, has_room, put}
use Rattle.silos.specs.declared.Silo.{Silo}
use Rattle.words.specs.Bits.TMMR
use Rattle.words.specs.declared.answers.Write.{Write}
use Rattle.words.specs.declared.answers.Refusal.{Refusal}
use Rattle.master.specs.Ring.{address, addresses_in, may_start}
use Rattle.master.specs.Section.{has_master, master_written, rises}
use Rattle.master.specs.Side.{with_addresses}
use Rattle.master.specs.declared.registers.High.{High}
use Rattle.master.specs.declared.registers.Low.{Low}
use Rattle.master.specs.declared.registers.Written.{Written}
use Rattle.master.specs.declared.side.Master.{Master}
use Rattle.master.specs.declared.side.Mastership.{Mastership}

-- ---- the high byte, by its bits in the word: MASTER, SEC, NOW MST, AUT ADR and CLR ADR; bits 11, 14 and 15 are read-only

-- "CLR ADR empties the address silo before AUT ADR is looked at"
abbrev pub silo_found : Silo → Bool → Silo
silo_found addresses clear = pick clear no_words addresses

-- "An empty address silo sets AUT ADR at once." (reading 17; docs/DECISIONS.md, "An empty address silo is found with AUT ADR set")
abbrev pub auto_found : Silo → Bool → Bool
auto_found addresses auto = is_empty addresses || auto

-- "Clearing AUT ADR (bit 12 written 0 while set)": every such write is a try (reading 17)
abbrev pub tries : Master → ℕ → Bool
tries m word = auto_found (silo_found m.addresses (bit_at word TMMR.CLR_ADR)) m.auto_address && not (bit_at word TMMR.AUT_ADR)

-- "succeeds only with 20 to 50 addresses, no two neighbours equal around the ring; else 5"
abbrev pub refused_at : Silo → Bool → Bool
refused_at addresses tried = tried && not (may_start (addresses_in addresses))

abbrev pub refused : Master → ℕ → Bool
refused m word = refused_at (silo_found m.addresses (bit_at word TMMR.CLR_ADR)) (tries m word)

-- number 5: "AUT ADR stays set, the rest is done"
abbrev pub auto_left : Master → ℕ → Bool
auto_left m word = bit_at word TMMR.AUT_ADR || refused m word

-- the counter "restarts when MASTER or AUT ADR goes from clear to set" (reading 21)
abbrev pub restarts : Master → Mastership → ℕ → Bool
restarts m mastership word =
    rises (has_master mastership) (has_master (master_written mastership (bit_at word TMMR.MASTER))) || rises m.auto_address (auto_left m word)

abbrev pub place_found : Master → Bool → ℕ
place_found m again = pick again m.switch m.place

-- SEC and NOW MST are as written: MASTER clears neither (reading 19)
abbrev pub high_written : Master → Mastership → ℕ → High
high_written m mastership word =
    record {
      refused = refused m word;
      mastership = master_written mastership (bit_at word TMMR.MASTER);
      side =
          record {
            addresses = silo_found m.addresses (bit_at word TMMR.CLR_ADR);
            auto_address = auto_left m word;
            secondary = bit_at word TMMR.SEC;
            now_master = bit_at word TMMR.NOW_MST;
            place = place_found m (restarts m mastership word);
            switch = m.switch;
          };
    }

-- ---- the low byte

-- AIP RDY: an address would be taken now (reading 3); "dropped (6) if AUT ADR is clear, RD SILO set or 50 held"
abbrev pub takes_address : Master → Bool → Bool
takes_address m reading = m.auto_address && not reading && has_room 50 m.addresses

-- "loaded as an address (mod 32)", 0 too (readings 18, 19); number 6: "no address is loaded"
abbrev pub loaded : Master → Bool → ℕ → Low
loaded m reading byte =
    pick (takes_address m reading) (record { dropped = false; side = with_addresses m (put 50 m.addresses (address byte)) })
    (record { dropped = true; side = m })

-- `NotStarted` is 5 and `Dropped` 6: "A TMMR write meeting both 5 and 6 answers 5."
abbrev pub answer_of : Bool → Bool → Result Write Refusal
answer_of refused dropped = pick refused (Ok Write.NotStarted) (pick dropped (Ok Write.Dropped) (Ok Write.Done))

-- ---- a write of the word, and of either byte

-- the low byte finds what the high one left, also where that is refused (reading 18)
abbrev pub low_after : High → Bool → ℕ → Written
low_after high reading byte =
    record {
      answer = answer_of high.refused (loaded high.side reading byte).dropped;
      mastership = high.mastership;
      side = (loaded high.side reading byte).side;
    }

abbrev pub word_written : Master → Mastership → Bool → ℕ → Written
word_written m mastership reading word = low_after (high_written m mastership word) reading (word % 2 ^ 8)

abbrev pub high_alone : High → Written
high_alone high = record { answer = answer_of high.refused false; mastership = high.mastership; side = high.side }

abbrev pub high_byte_written : Master → Mastership → ℕ → Written
high_byte_written m mastership byte = high_alone (high_written m mastership (byte * 2 ^ 8))

abbrev pub low_byte_written : Master → Mastership → Bool → ℕ → Written
low_byte_written m mastership reading byte = low_after (record { refused = false; mastership = mastership; side = m }) reading byte
