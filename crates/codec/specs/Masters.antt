-- A master section as the 52 cells of its window, and the section that a window holds, whatever its cells hold: docs/STATE.md has the
-- table. Each number is read within its limits, and AUT ADR as the sentence asks.
-- Assumes nothing.
use Rattle.std.specs.Prelude.{◌&&◌, List, [], ◌∷◌, ◌++◌, ℕ, ◌+◌, ◌*◌, ◌^◌, max, leb}
use Rattle.laws.specs.Bits.{bits, bit_at, set_at}
use Rattle.laws.specs.Pick.{pick}
use Rattle.silos.specs.Silo.{words}
use Rattle.silos.specs.declared.Silo.{Silo}
use Rattle.master.specs.Writing.{auto_found}
use Rattle.master.specs.declared.side.Master.{Master}
use Rattle.codec.specs.Rings.{silo_of, start_for, start_next, laid_from, ring_cell}
use Rattle.codec.specs.Window.{cell, window}

-- ---- the places of its cells, and of the parts of the section's word

-- where the addresses start in their ring, and how many they are
abbrev pub RING : ℕ
RING = 0

-- the section's word
abbrev pub SECTION : ℕ
SECTION = 1

-- the first of the 50 cells of the address silo's ring
abbrev pub ADDRESSES : ℕ
ADDRESSES = 2

-- in the section's word: the counter's next address, of 5 bits
abbrev pub COUNTER : ℕ
COUNTER = 0

-- the counter switch, of 5 bits
abbrev pub SWITCH : ℕ
SWITCH = 5

abbrev pub AUT_ADR : ℕ
AUT_ADR = 10

abbrev pub SEC : ℕ
SEC = 11

abbrev pub NOW_MST : ℕ
NOW_MST = 12

-- ---- out

abbrev pub section_word : Master → ℕ
section_word m =
    m.place * 2 ^ COUNTER
    + m.switch * 2 ^ SWITCH
    + set_at AUT_ADR m.auto_address
    + set_at SEC m.secondary
    + set_at NOW_MST m.now_master

-- the cells before the ring's
abbrev pub master_head : ℕ → Master → List ℕ
master_head start m = ring_cell start m.addresses.held ∷ section_word m ∷ []

-- a window, in the place of one that stood there: the addresses lie in its ring
abbrev pub master_from : ℕ → List ℕ → Master → List ℕ
master_from start old m = master_head start m ++ laid_from start (words m.addresses) (window old ADDRESSES 50)

abbrev pub enc_master : List ℕ → Master → List ℕ
enc_master old m = master_from (start_for 50 (cell old RING) m.addresses.held) old m

-- after a slice: where the section goes by its address silo, the oldest address was taken and came to the end
abbrev pub enc_next : List ℕ → Master → List ℕ
enc_next old m = pick m.auto_address (enc_master old m) (master_from (start_next 50 (cell old RING)) old m)

-- ---- in

-- "address silos 50"
abbrev pub addresses_in : List ℕ → Silo
addresses_in w = silo_of 50 (cell w RING) (window w ADDRESSES 50)

-- "counter switches 2 to 31": a switch below 2 reads as 2
abbrev pub switch_in : ℕ → ℕ
switch_in word = max 2 (bits word SWITCH 5)

-- "switch, switch - 1, .. 1, switch": a counter outside 1 to its switch reads as the switch
abbrev pub counter_in : ℕ → ℕ → ℕ
counter_in place switch = pick (leb 1 place && leb place switch) place switch

-- "An empty address silo sets AUT ADR at once."
abbrev pub section_of : Silo → ℕ → Master
section_of silo word =
    record {
      addresses = silo;
      auto_address = auto_found silo (bit_at word AUT_ADR);
      secondary = bit_at word SEC;
      now_master = bit_at word NOW_MST;
      place = counter_in (bits word COUNTER 5) (switch_in word);
      switch = switch_in word;
    }

-- the section that a window holds
abbrev pub dec_master : List ℕ → Master
dec_master w = section_of (addresses_in w) (cell w SECTION)

-- the section that the cells hold at a place
abbrev pub master_at : List ℕ → ℕ → Master
master_at cells at = dec_master (window cells at 52)
