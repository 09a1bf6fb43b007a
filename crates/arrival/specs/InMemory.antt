-- Readings that a host builds in T's own memory, and a load that takes the words from there.
-- Assumes nothing.
use Rattle.std.specs.Prelude.{true, false, List, ◌++◌, ◌≡◌, ℕ, ◌+◌, ◌/◌, ◌≤◌, ◌<◌, length, take, drop, Result, Ok}
use Rattle.cells.specs.Fitted.{transmitter_of}
use Rattle.cells.specs.Layout.{count_in, memory_length}
use Rattle.cells.specs.Ranges.{in_range}
use Rattle.delivery.specs.Conditions.{Stretch}
use Rattle.promise.specs.World.{World}
use Rattle.readings.specs.Build.{build_call}
use Rattle.readings.specs.declared.answers.BuildError.{BuildError}
use Rattle.silos.specs.Silo as Silo
use Rattle.transmitter.specs.declared.side.Transmitter.{Transmitter}
use Rattle.words.specs.Load.{words_left}

-- T, and its memory
pub record InMemory (t : Transmitter) (memory numbers : List ℕ) (words : ℕ) : Type 0 where
  -- building was lent the memory, as it was before, from a word on
  pub before : List ℕ
  pub place : ℕ
  pub left : List ℕ
  pub built : ◌≡◌ {A = Result ℕ BuildError × List ℕ} (Ok words, left) (build_call 1 numbers (drop place before))
  pub stands : memory ≡ take place before ++ left
  -- a load of the words that it wrote: so many of them were moved into T's silo, and the load has the others left
  pub moved : ℕ
  pub in_silo : Silo.words t.end.silo ≡ take moved left
  pub others : moved + words_left t.end.load ≡ words
  pub next : t.end.load.address.0 / 2 ≡ place + moved

-- the same of a unit's transmitter in a world, where its moves go well: INH ADI is clear, and the words that are left lie inside the
-- memory, which is lent whole, and short of byte 777776
pub record Loading (unit : ℕ) (w : World) (numbers : List ℕ) (words : ℕ) : Type 0 where
  pub ranged : in_range w.cells ≡ true
  pub fitted : unit < count_in w.cells
  pub lent : memory_length w.cells unit ≤ length (w.memory unit)
  pub increments : (transmitter_of w.cells unit).modes.inhibit_increment ≡ false
  pub stretch : Stretch ((transmitter_of w.cells unit).end.load.address.0 / 2) (words_left (transmitter_of w.cells unit).end.load) (memory_length w.cells unit)
  pub in_memory : InMemory (transmitter_of w.cells unit) (w.memory unit) numbers words
