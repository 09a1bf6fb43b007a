-- What the windows of a transmitter and of a receiver have in common: 73 cells, of which the first nine are the head and the others the
-- silo's ring. Every pattern of the cells has a meaning (docs/STATE.md has the table): each number is read within its limits.
-- Assumes nothing.
use Rattle.std.specs.Prelude.{Bool, List, [], ◌∷◌, ◌++◌, ℕ, ◌+◌, ◌*◌, ◌/◌, ◌%◌, ◌^◌, min}
use Rattle.ends.specs.declared.End.{End}
use Rattle.laws.specs.Bits.{bits, bit_at}
use Rattle.silos.specs.Silo.{words}
use Rattle.silos.specs.declared.Silo.{Silo}
use Rattle.words.specs.Address.{at, low_of}
use Rattle.words.specs.Count.{in_bytes}
use Rattle.words.specs.declared.codes.Codes.{Codes}
use Rattle.words.specs.declared.load.Load.{Load}
use Rattle.codec.specs.Rings.{silo_of, start_for, laid_from, ring_cell}
use Rattle.codec.specs.Window.{cell, window}

-- ---- the places of its cells

-- where the silo's words start in its ring, and how many they are
abbrev pub RING : ℕ
RING = 0

-- the words since the last CRC
abbrev pub BLOCK : ℕ
BLOCK = 1

-- what only one side has: the destination latched at the opening, or whether the message is truncated
abbrev pub OWN : ℕ
OWN = 2

-- the low half of the address / 2, since its bit 0 is dropped
abbrev pub LOW : ℕ
LOW = 3

-- the byte count / 2, likewise
abbrev pub COUNT : ℕ
COUNT = 4

-- TCR's bits or RCR's, with two of our own
abbrev pub CONTROL : ℕ
CONTROL = 5

-- TSR's bits or RSR's, with the channel's
abbrev pub STATUS : ℕ
STATUS = 6

abbrev pub CRC : ℕ
CRC = 7

-- the serial of the last opening (document 02, No. 6)
abbrev pub SERIAL : ℕ
SERIAL = 8

-- the first of the 64 cells of the silo's ring
abbrev pub SILO : ℕ
SILO = 9

-- ---- in the control cell

-- at TX INIT and RC INIT, which are write-only: whether the count is loaded
abbrev pub LOADED : ℕ
LOADED = 1

-- at DT O RDY and DTIRDY, which are computed: the period's mark
abbrev pub MARK : ℕ
MARK = 3

-- EA16, and EA17 above it
abbrev pub EA16 : ℕ
EA16 = 4

-- ---- out

-- the head: where the silo starts, the values of an end, the cell of one side only, and the two cells of bits
abbrev pub head_of : ℕ → End → ℕ → ℕ → ℕ → List ℕ
head_of start end own control status =
    ring_cell start end.silo.held
    ∷ end.block
    ∷ own
    ∷ low_of end.load.address.0 / 2
    ∷ end.load.count.0 / 2
    ∷ control
    ∷ status
    ∷ end.crc
    ∷ end.serial
    ∷ []

-- a window, in the place of one that stood there: the words lie in its ring
abbrev pub window_of : List ℕ → End → ℕ → ℕ → ℕ → List ℕ
window_of old end own control status =
    let start = start_for 64 (cell old RING) end.silo.held in
    head_of start end own control status ++ laid_from start (words end.silo) (window old SILO 64)

-- ---- in

-- "Data silos hold 64 words"
abbrev pub silo_in : List ℕ → Silo
silo_in w = silo_of 64 (cell w RING) (window w SILO 64)

-- both halves are numbers of 15 bits: one of more reads by the remainder
abbrev pub load_of : ℕ → ℕ → ℕ → Load
load_of low count control =
    record {
      count = in_bytes (count % 2 ^ 15 * 2);
      loaded = bit_at control LOADED;
      address = at (bits control EA16 2 * 2 ^ 16 + low % 2 ^ 15 * 2);
    }

-- RSP A and RSP B, two bits each
abbrev pub codes_of : ℕ → Codes
codes_of status = record { a = bits status 0 2; b = bits status 2 2 }

-- "128 words since the last CRC": a count above 128 reads as 128. Whether the channel is open stands at another bit for each side, and
-- where a period's mark counts is each side's own matter.
abbrev pub end_in : List ℕ → Bool → Bool → End
end_in w opened mark =
    record {
      silo = silo_in w;
      load = load_of (cell w LOW) (cell w COUNT) (cell w CONTROL);
      shown = codes_of (cell w STATUS);
      opened = opened;
      block = min 128 (cell w BLOCK);
      crc = cell w CRC % 2 ^ 16;
      mark = mark;
      serial = cell w SERIAL % 2 ^ 16;
    }
