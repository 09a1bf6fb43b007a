-- A master that goes round a list, and the calls that leave it to that.
-- Assumes nothing.
use Rattle.std.specs.Prelude.{true, false, List, [], ◌∷◌, ◌≡◌, ℕ, ◌+◌, ◌^◌, ◌<◌}
use Rattle.cells.specs.Fitted.{master_of}
use Rattle.cells.specs.Layout.{holder_in}
use Rattle.cells.specs.Ranges.{in_range}
use Rattle.master.specs.Ring.{addresses_in}
use Rattle.promise.specs.Conditions.{AtTMMR}
use Rattle.promise.specs.World.{Event, fit, write, write_byte, read, slice, move, period, reset, level, serial, host_write}
use Rattle.transmitter_registers.specs.Writing.{initialises}

-- Document 01, The master section: "Then each slice takes the oldest address and returns it to the end."
pub record GoesRound (unit : ℕ) (list : List ℕ) (cells : List ℕ) : Type 0 where
  pub ranged : in_range cells ≡ true
  -- the unit has MASTER, with AUT ADR clear
  pub master : holder_in cells ≡ unit + 1
  pub cleared : (master_of cells unit).auto_address ≡ false
  -- and its address silo holds the list, the oldest first
  pub holds : addresses_in (master_of cells unit).addresses ≡ list

-- "no fit; .. no write to TMMR, TX INIT or reset at the master" (Conditions of demand 3). All else is free: every other unit, every other
-- call, and damage
pub record Elsewhere (offset value : ℕ) : Type 0 where
  pub not_tmmr : AtTMMR offset → ⊥
  pub not_tx_init : offset ≡ 0 → initialises value ≡ false

abbrev pub Spares : ℕ → Event → Type 0
Spares unit (fit setup) = ⊥
-- the value is a word of 16 bits, or a byte
Spares unit (write at offset word) = (word < 2 ^ 16) × (at ≡ unit → Elsewhere offset word)
Spares unit (write_byte at offset byte) = (byte < 2 ^ 8) × (at ≡ unit → Elsewhere offset byte)
Spares unit (read at offset) = Unit {0}
Spares unit (slice mask parity) = Unit {0}
Spares unit (move at side) = Unit {0}
Spares unit (period at) = Unit {0}
Spares unit (reset at) = at ≡ unit → ⊥
Spares unit (level at side) = Unit {0}
Spares unit (serial at side) = Unit {0}
Spares unit (host_write at place word) = Unit {0}

abbrev pub AllSpare : ℕ → List Event → Type 0
AllSpare unit [] = Unit {0}
AllSpare unit (e ∷ es) = Spares unit e × AllSpare unit es
