-- Document 01, Conditions of demand 3, "After it": what the events after the opening may be. All else is free: every other unit, every
-- other call, the order of the moves, and the calls that are refused.
-- Assumes nothing.
use Rattle.std.specs.Prelude.{false, List, [], ◌∷◌, ◌⊎◌, ◌≡◌, ℕ, ◌+◌, ◌^◌, ◌<◌, length, get_or}
use Rattle.delivery.specs.Ends.{Message}
use Rattle.outcomes.specs.Unchanged.{leaves_all}
use Rattle.transmitter_registers.specs.Writing.{initialises}
use Rattle.promise.specs.Kinds.{kind_of, own}
use Rattle.promise.specs.Opening.{Parties}
use Rattle.promise.specs.World.{World, Event, fit, write, write_byte, read, slice, move, period, reset, level, serial, host_write, step, number_of}

-- ---- T's slices

-- "no damage on T's slices; before each of T's slices both ends have moved until 4": one more move of either would answer 4
pub record OwnSlice (p : Parties) (mask parity : ℕ) (w : World) : Type 0 where
  pub data_undamaged : mask ≡ 0
  pub parity_undamaged : parity ≡ 0
  pub sender_moved : number_of (move p.sender 0) w ≡ 4
  pub receiver_moved : number_of (move p.receiver 1) w ≡ 4

-- ---- "no write .. at T or R; .. no write to TMMR, TX INIT .. at the master"

-- T's registers are those at the offsets below 16 but TMMR's, and R's those from 16 on
abbrev pub AtTMMR : ℕ → Type 0
AtTMMR offset = (offset ≡ 10) ⊎ (offset ≡ 11)

pub record Write (p : Parties) (unit offset word : ℕ) : Type 0 where
  pub not_at_t : unit ≡ p.sender → offset < 16 → AtTMMR offset
  pub not_at_r : unit ≡ p.receiver → offset < 16
  pub not_tmmr : unit ≡ p.master → AtTMMR offset → ⊥
  pub not_tx_init : unit ≡ p.master → offset ≡ 0 → initialises word ≡ false

-- ---- "no .. reset or period at T or R": they are at a unit, both its sides

pub record Elsewhere (p : Parties) (unit : ℕ) : Type 0 where
  pub not_at_t : unit ≡ p.sender → ⊥
  pub not_at_r : unit ≡ p.receiver → ⊥

-- ---- "the sent stretch not written meanwhile": the words that T's load has left at the opening are left as they are

abbrev pub SentKept : Parties → Message → World → World → Type 0
SentKept p m before after =
    (i : ℕ) → i < length m.rest → get_or (after.memory p.sender) (m.source + i) 0 ≡ get_or (before.memory p.sender) (m.source + i) 0

-- "no host write in the receiving memory"
pub record HostWrite (p : Parties) (m : Message) (unit place word : ℕ) (w : World) : Type 0 where
  pub not_receiving : unit ≡ p.receiver → ⊥
  pub sent_kept : SentKept p m w (step (host_write unit place word) w)

-- ---- each event

abbrev pub Permitted : Parties → Message → Event → World → Type 0
-- "no fit"
Permitted p m (fit setup) w = ⊥
-- the value is a word of 16 bits, or a byte
Permitted p m (write unit offset word) w = (word < 2 ^ 16) × Write p unit offset word
Permitted p m (write_byte unit offset byte) w = (byte < 2 ^ 8) × Write p unit offset byte
Permitted p m (read unit offset) w = Unit {0}
Permitted p m (slice mask parity) w = kind_of m.from (slice mask parity) w ≡ own → OwnSlice p mask parity w
-- R's own moves are free; another receiver's, where it has T's memory, are not to write the sent stretch
Permitted p m (move unit side) w = (unit ≡ p.receiver → ⊥) → SentKept p m w (step (move unit side) w)
Permitted p m (period unit) w = Elsewhere p unit
-- "no .. reset at the master"
Permitted p m (reset unit) w = Elsewhere p unit × (unit ≡ p.master → ⊥)
Permitted p m (level unit side) w = Unit {0}
Permitted p m (serial unit side) w = Unit {0}
Permitted p m (host_write unit place word) w = HostWrite p m unit place word w

-- a call whose number says "unchanged" is free: it is a call that is not done
abbrev pub Allowed : Parties → Message → Event → World → Type 0
Allowed p m e w = leaves_all (number_of e w) ≡ false → Permitted p m e w

-- every event of a run is, where it comes
abbrev pub Conducted : Parties → Message → World → List Event → Type 0
Conducted p m w [] = Unit {0}
Conducted p m w (e ∷ es) = Allowed p m e w × Conducted p m (step e w) es
