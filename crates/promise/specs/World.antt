-- The world of a run: the lent cells and every unit's memory. An event is a public call with any arguments, or a host's write in a
-- memory. All moves of a side at once are so many moves (`Transfers`), and who wants service leaves everything.
-- Assumes nothing.
use Rattle.std.specs.Prelude.{List, [], ◌∷◌, ℕ, ◌^◌, ◌<◌, eqb, set, Result, Option}
use Rattle.laws.specs.Pick.{pick}
use Rattle.pcl.specs.Calls.{read_call, write_call, byte_call, reset_call, period_call}
use Rattle.pcl.specs.Link.{fit_call, slice_call}
use Rattle.pcl.specs.Numbers.{read_call_number, write_call_number, done_number, fit_number, slice_number, move_call_number, level_number, serial_number}
use Rattle.pcl.specs.Sides.{move_call, level_call, serial_call}
use Rattle.words.specs.declared.answers.Refusal.{Refusal}

pub record World : Type 0 where
  pub cells : List ℕ
  -- of each unit, by its number
  pub memory : ℕ → List ℕ

-- Document 01, The link, "Calls", with the one that document 02, No. 6, adds, and the host's own write of a word in a unit's memory
pub data Event : Type 0 where
  -- the set-up
  fit : List ℕ → Event
  -- unit, offset, word or byte
  write : ℕ → ℕ → ℕ → Event
  write_byte : ℕ → ℕ → ℕ → Event
  read : ℕ → ℕ → Event
  -- damage mask over 16 data lines, and over parity
  slice : ℕ → ℕ → Event
  -- unit, side
  move : ℕ → ℕ → Event
  period : ℕ → Event
  reset : ℕ → Event
  level : ℕ → ℕ → Event
  serial : ℕ → ℕ → Event
  -- unit, place in its memory, word
  host_write : ℕ → ℕ → ℕ → Event

-- what a call can be handed: a word has 16 bits, a byte 8
abbrev pub Handed : Event → Type 0
Handed (fit setup) = Unit {0}
Handed (write unit offset word) = word < 2 ^ 16
Handed (write_byte unit offset byte) = byte < 2 ^ 8
Handed (read unit offset) = Unit {0}
Handed (slice mask parity) = Unit {0}
Handed (move unit side) = Unit {0}
Handed (period unit) = Unit {0}
Handed (reset unit) = Unit {0}
Handed (level unit side) = Unit {0}
Handed (serial unit side) = Unit {0}
Handed (host_write unit place word) = Unit {0}

abbrev pub AllHanded : List Event → Type 0
AllHanded [] = Unit {0}
AllHanded (e ∷ es) = Handed e × AllHanded es

-- ---- what an event leaves

abbrev pub with_cells : World → List ℕ → World
with_cells w cells = record { cells = cells; memory = w.memory }

abbrev pub with_memory : (ℕ → List ℕ) → ℕ → List ℕ → ℕ → List ℕ
with_memory memory unit new k = pick (eqb k unit) new (memory k)

-- a move is lent the memory of the unit that it names
abbrev pub moved_by : World → ℕ → Result (Option ℕ) Refusal × List ℕ × List ℕ → World
moved_by w unit p = record { cells = p.1; memory = with_memory w.memory unit p.2 }

abbrev pub step : Event → World → World
step (fit setup) w = with_cells w (fit_call w.cells setup).1
step (write unit offset word) w = with_cells w (write_call w.cells unit offset word).1
step (write_byte unit offset byte) w = with_cells w (byte_call w.cells unit offset byte).1
step (read unit offset) w = with_cells w (read_call w.cells unit offset).1
step (slice mask parity) w = with_cells w (slice_call w.cells mask parity).1
step (move unit side) w = moved_by w unit (move_call w.cells (w.memory unit) unit side)
step (period unit) w = with_cells w (period_call w.cells unit).1
step (reset unit) w = with_cells w (reset_call w.cells unit).1
step (level unit side) w = w
step (serial unit side) w = w
step (host_write unit place word) w =
    record { cells = w.cells; memory = with_memory w.memory unit (set (w.memory unit) place word) }

-- events one after the other: "each call is lent the state and memories the last one left, but for the host's memory writes"
abbrev pub run : List Event → World → World
run [] w = w
run (e ∷ es) w = run es (step e w)

-- ---- the number that a call answers; a host's write answers none, and is done

abbrev pub number_of : Event → World → ℕ
number_of (fit setup) w = fit_number (fit_call w.cells setup).0
number_of (write unit offset word) w = write_call_number (write_call w.cells unit offset word).0
number_of (write_byte unit offset byte) w = write_call_number (byte_call w.cells unit offset byte).0
number_of (read unit offset) w = read_call_number (read_call w.cells unit offset).0
number_of (slice mask parity) w = slice_number (slice_call w.cells mask parity).0
number_of (move unit side) w = move_call_number (move_call w.cells (w.memory unit) unit side).0
number_of (period unit) w = done_number (period_call w.cells unit).0
number_of (reset unit) w = done_number (reset_call w.cells unit).0
number_of (level unit side) w = level_number (level_call w.cells unit side)
number_of (serial unit side) w = serial_number (serial_call w.cells unit side)
number_of (host_write unit place word) w = 0
