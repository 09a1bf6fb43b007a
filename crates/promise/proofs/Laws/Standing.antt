-- How the world stands while a message is under way: what the proof carries from event to event.
-- Assumes nothing.
use Rattle.std.specs.Prelude.{List, ◌≡◌, ℕ, ◌+◌, true}
use Rattle.cells.specs.Ranges.{in_range}
use Rattle.cells.specs.Fitted.{master_of}
use Rattle.cells.specs.Layout.{holder_in}
use Rattle.delivery.specs.Laws.Invariant.{Delivering}
use Rattle.delivery.specs.Laws.Slices.{State, slice}
use Rattle.frames.specs.Laws.Kept.{Kept}
use Rattle.master.specs.Cycle.{cycle_of}
use Rattle.promise.specs.Kinds.{Kind, own, other, quiet}
use Rattle.promise.specs.Opening.{Parties, ends_of, message_in}
use Rattle.promise.specs.World.{World}

-- the addresses of the slices to come
abbrev pub ring_of : Parties → World → List ℕ
ring_of p w = cycle_of (master_of w.cells p.master)

-- where an event takes a message of n words: a slice of T's takes it on, and all else leaves it where it stands
abbrev pub onward : ℕ → Kind → State → State
onward n own q = slice n q
onward n other q = q
onward n quiet q = q

-- start is the world at the opening, before the opening slice
pub record Standing (p : Parties) (start : World) (q : State) (w : World) : Type 0 where
  pub ranged : in_range w.cells ≡ true
  -- the count of units, and every unit's addresses and memory length, are those of the opening
  pub kept : Kept start.cells w.cells
  -- and so is the master
  pub mastered : holder_in w.cells ≡ p.master + 1
  pub delivering : Delivering (message_in p start) q (ends_of p w)
