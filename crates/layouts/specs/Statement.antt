-- Document 02, No. 7: "For every call from every valid state the answer, the words in order and the registers are proved equal to those of
-- the shifting layout, once over the silo's size so that 64 and 50 share it."
-- Assumes nothing.
use Rattle.std.specs.Prelude.{List, ◌≡◌, ℕ, ◌+◌, ◌-◌, ◌*◌, ◌/◌, ◌%◌, ◌≤◌, ◌<◌, length, get_or, set}
use Rattle.cells.specs.Fitted.{transmitter_of, receiver_of, master_of}
use Rattle.cells.specs.Layout.{count_in, holder_in}
use Rattle.codec.specs.Rings.{around, silo_of}
use Rattle.codec.proofs.Laws.SiloLaws.{silo_cells}
use Rattle.promise.specs.World.{World, Event, read, step, run}
use Rattle.silos.specs.Silo.{Sized, put, taken, oldest}
use Rattle.silos.specs.declared.Silo.{Silo}
use Rattle.layouts.specs.Answers.{answer_of}
use Rattle.layouts.specs.Layouts.{Layout, going_round, shifting}
use Rattle.layouts.specs.Runs.{laid_in, run_in, answers_in}
use Rattle.layouts.specs.Same.{SameWorld, SameNumbers}
use Rattle.layouts.specs.Shifting.{UnitFromFirst}

-- ---- the ring, "once over the silo's size so that 64 and 50 share it"

-- a silo's cell and its ring, as a call writes them
pub record Stands (size place : ℕ) (ring : List ℕ) : Type 0 where
  pub long : length ring ≡ size
  pub few : place / 64 ≤ size
  pub near : place % 64 < size

-- "Keep each silo with a start place and a length, going round at its end"
pub record GoesRound (size place : ℕ) (ring : List ℕ) : Type 0 where
  -- a word that comes goes into the cell behind the last one
  pub comes : (word : ℕ) → place / 64 < size
      → silo_cells size place ring (put size (silo_of size place ring) word) ≡ (place + 64, set ring (around size (place % 64 + place / 64)) word)
  -- the oldest that goes is that of the start place, and no cell of the ring changes
  pub oldest_is : 1 ≤ place / 64 → oldest (silo_of size place ring) ≡ get_or ring (place % 64) 0
  pub goes : 1 ≤ place / 64 → silo_cells size place ring (taken (silo_of size place ring)) ≡ (around size (place % 64 + 1) + (place / 64 - 1) * 64, ring)
  -- and whatever is put there is read back
  pub back : (silo : Silo) → Sized size silo → silo_of size (silo_cells size place ring silo).0 (silo_cells size place ring silo).1 ≡ silo

-- ---- calls

-- one call on two worlds: the same answer, and worlds that are the same but for the layout
pub record Alike (e : Event) (w v : World) : Type 0 where
  pub answer : answer_of e w ≡ answer_of e v
  pub after : SameWorld (step e w) (step e v)

-- a run of calls, in one layout and in another
pub record AlikeIn (one other : Layout) (es : List Event) (w v : World) : Type 0 where
  pub answers : answers_in one es w ≡ answers_in other es v
  pub after : SameWorld (run_in one es w) (run_in other es v)

-- what the link does in a run from w, and what it does in the shifting layout from the same state
module _ (es : List Event) (w : World) where
  abbrev pub here : World
  here = run es w

  abbrev pub there : World
  there = run_in shifting es (laid_in shifting w)

  pub record AsShifting : Type 0 where
    -- "the answer" of every call
    pub answers : answers_in going_round es w ≡ answers_in shifting es (laid_in shifting w)
    -- "the registers", as any read after the run shows them
    pub registers : (unit offset : ℕ) → answer_of (read unit offset) here ≡ answer_of (read unit offset) there
    -- "the words in order", and all else that a side has: its silo is its words in order
    pub transmitters : (unit : ℕ) → unit < count_in here.cells → transmitter_of here.cells unit ≡ transmitter_of there.cells unit
    pub receivers : (unit : ℕ) → unit < count_in here.cells → receiver_of here.cells unit ≡ receiver_of there.cells unit
    pub masters : (unit : ℕ) → unit < count_in here.cells → master_of here.cells unit ≡ master_of there.cells unit
    -- as many units, the same master, and each unit's addresses and memory
    pub count : count_in here.cells ≡ count_in there.cells
    pub holder : holder_in here.cells ≡ holder_in there.cells
    pub own : (unit : ℕ) → unit < count_in here.cells → SameNumbers here.cells there.cells unit
    pub memory : (unit : ℕ) → here.memory unit ≡ there.memory unit
    -- and there every silo lies from its first cell on
    pub shifted : (unit : ℕ) → unit < count_in there.cells → UnitFromFirst there.cells unit
