-- A list loaded into an address silo by TMMR writes: each address by a write of the low byte, and then a write of the high byte that
-- clears AUT ADR.
-- Assumes nothing.
use Rattle.std.specs.Prelude.{true, false, List, [], ◌∷◌, ◌++◌, map, ◌⊎◌, ◌≡◌, ℕ, ◌+◌, ◌*◌, ◌^◌, ◌<◌}
use Rattle.accesses.specs.Offsets.{TMMR, TMMR_HIGH}
use Rattle.cells.specs.Fitted.{master_of, transmitter_of}
use Rattle.cells.specs.Layout.{count_in}
use Rattle.cells.specs.Ranges.{in_range}
use Rattle.laws.specs.Bits.{bit_at}
use Rattle.master.specs.Ring.{addresses_in}
use Rattle.promise.specs.World.{World, Event, write_byte, step, run, number_of}
use Rattle.silos.specs.Silo.{is_empty}
use Rattle.words.specs.Bits.TMMR as Bits

-- a fitted unit whose address silo is empty. RD SILO is clear: "dropped (6) if .. RD SILO set"
pub record Empty (unit : ℕ) (cells : List ℕ) : Type 0 where
  pub ranged : in_range cells ≡ true
  pub fitted : unit < count_in cells
  pub none : is_empty (master_of cells unit).addresses ≡ true
  pub not_reading : (transmitter_of cells unit).modes.read_silo ≡ false

-- a high byte of TMMR that empties the address silo: CLR ADR, and AUT ADR, so that it is no try to start
pub record Empties (high : ℕ) : Type 0 where
  pub byte : high < 2 ^ 8
  pub clear_addresses : bit_at (high * 2 ^ 8) Bits.CLR_ADR ≡ true
  pub auto_address : bit_at (high * 2 ^ 8) Bits.AUT_ADR ≡ true

-- a high byte of TMMR that clears AUT ADR and leaves the addresses; MASTER, SEC and NOW MST are free
pub record Clears (high : ℕ) : Type 0 where
  pub byte : high < 2 ^ 8
  pub auto_address : bit_at (high * 2 ^ 8) Bits.AUT_ADR ≡ false
  pub clear_addresses : bit_at (high * 2 ^ 8) Bits.CLR_ADR ≡ false

-- MASTER is this unit's to have: nobody has it, or it has it already. "Setting MASTER while any unit has it changes no MASTER bit"
abbrev pub MayHave : ℕ → ℕ → Type 0
MayHave unit holder = (holder ≡ 0) ⊎ (holder ≡ unit + 1)

-- the writes, in their order
abbrev pub loads : ℕ → List ℕ → List Event
loads unit list = map (write_byte unit TMMR) list

abbrev pub writes : ℕ → List ℕ → ℕ → List Event
writes unit list high = loads unit list ++ (write_byte unit TMMR_HIGH high ∷ [])

-- the writes that tools/shares prints: MASTER, AUT ADR and CLR ADR; the addresses; MASTER
abbrev pub printed : ℕ → List ℕ → List Event
printed unit list = write_byte unit TMMR_HIGH 0x31 ∷ writes unit list 1

-- every call of a run is answered 0
abbrev pub Done : World → List Event → Type 0
Done w [] = Unit {0}
Done w (e ∷ es) = (number_of e w ≡ 0) × Done (step e w) es

-- the writes are answered 0, the last one too, and then AUT ADR is clear and the silo holds the list
pub record Starts (unit : ℕ) (list : List ℕ) (high : ℕ) (w : World) : Type 0 where
  pub done : Done w (writes unit list high)
  pub cleared : (master_of (run (writes unit list high) w).cells unit).auto_address ≡ false
  pub holds : addresses_in (master_of (run (writes unit list high) w).cells unit).addresses ≡ list
