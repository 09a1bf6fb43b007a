-- Demand 3, as it is promised: the run of events after an opening, and what holds at its end.
-- Assumes nothing.
use Rattle.std.specs.Prelude.{List, ℕ, ◌*◌, ◌≤◌, ◌<◌, length}
use Rattle.cells.specs.Fitted.{master_of}
use Rattle.delivery.specs.Ends.{Message}
use Rattle.delivery.specs.Outcome.{Delivered, Underway}
use Rattle.master.specs.Cycle.{cycle_length}
use Rattle.words.specs.Slices.{slices_of}
use Rattle.promise.specs.Conditions.{Conducted}
use Rattle.promise.specs.Kinds.{kinds, owns, slots}
use Rattle.promise.specs.Opening.{Parties, ends_of, message_in, parties_of}
use Rattle.promise.specs.Reports.{Reported, Unreported}
use Rattle.promise.specs.World.{World, Event, run, slice, step}

-- start is the world before the opening slice
module _ (start : World) where
  abbrev pub parties : Parties
  parties = parties_of start

  abbrev pub message : Message
  message = message_in parties start

  -- the world that the opening slice leaves, and what a run of events leaves of that
  abbrev pub opened : World
  opened = step (slice 0 0) start

  abbrev pub after : List Event → World
  after es = run es opened

  -- the run meets the conditions "After it"
  abbrev pub Meets : List Event → Type 0
  Meets es = Conducted parties message opened es

  -- T's slices among the events, and all slices
  abbrev pub own_slices : List Event → ℕ
  own_slices es = owns (kinds message.from opened es)

  abbrev pub all_slices : List Event → ℕ
  all_slices es = length (slots (kinds message.from opened es))

  -- n
  abbrev pub words_sent : ℕ
  words_sent = length message.content

  -- L: "the switch, or the silo's length"
  abbrev pub round : ℕ
  round = cycle_length (master_of start.cells parties.master)

  -- ---- what holds before the success, and from it on: at both ends, and as the hosts see it

  abbrev pub NotYet : World → Type 0
  NotYet w = Underway (ends_of parties w) × Unreported parties message.serial w

  abbrev pub Succeeded : World → Type 0
  Succeeded w = Delivered message (ends_of parties w) × Reported parties message.serial w

  -- Demand 3 (README.md): the message succeeds at both ends on exactly its transmitter's slice n - 1 + 2 x (n/128 rounded up) after the
  -- opening, not before it and from it on, within L times as many slices; and the receiving memory then holds exactly those words and is
  -- otherwise unchanged
  pub record Promise (es : List Event) : Type 0 where
    pub not_before : own_slices es < slices_of words_sent → NotYet (after es)
    pub from_then : slices_of words_sent ≤ own_slices es → Succeeded (after es)
    pub in_time : round * slices_of words_sent ≤ all_slices es → Succeeded (after es)
