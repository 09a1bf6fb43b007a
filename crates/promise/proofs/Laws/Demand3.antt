-- The proof of demand 3: what the run of a message says of its ends, and of what the hosts see.
-- Assumes nothing.
use Rattle.std.specs.Prelude.{List, [], ◌∷◌, ◌++◌, ◌≡◌, ℕ, suc, ◌*◌, ◌≤◌, ◌<◌, length}
use Rattle.std.proofs.Common.{arith}
use Rattle.cells.specs.Fitted.{master_of}
use Rattle.delivery.specs.Ends.{Message}
use Rattle.delivery.specs.Outcome.{Delivered, Underway}
use Rattle.delivery.proofs.Laws.Outcomes.{delivered, underway}
use Rattle.delivery.specs.Laws.Slices.{State}
use Rattle.master.specs.Cycle.{cycle_length}
use Rattle.words.specs.Slices.{slices_of}
use Rattle.promise.specs.Conditions.{Conducted}
use Rattle.promise.proofs.Laws.Counting.{owns_append}
use Rattle.promise.specs.Kinds.{kind_of, kinds, own, owns, slots}
use Rattle.promise.specs.Opening.{Parties, ends_of, message_in}
use Rattle.promise.proofs.Laws.Opens.{Opens}
use Rattle.promise.specs.Reports.{Reported, Unreported}
use Rattle.promise.proofs.Laws.Reports.{reported, unreported}
use Rattle.promise.proofs.Laws.Runs as Runs
use Rattle.promise.proofs.Laws.Standing.{Standing}
use Rattle.promise.specs.World.{World, Event, run, slice, step}

module _ (p : Parties) (start : World) (o : Opens p start) where
  abbrev m : Message
  m = message_in p start

  abbrev n : ℕ
  n = length m.content

  abbrev opened : World
  opened = step (slice 0 0) start

  abbrev pub Arrived : World → Type 0
  Arrived w = Delivered m (ends_of p w) × Reported p m.serial w

  arrived : (w : World) → Standing p start State.done w → Arrived w
  arrived w s = (delivered m (ends_of p w) s.delivering, reported p start o w s)

  module _ (es : List Event) (c : Conducted p m opened es) where
    pub not_before : owns (kinds m.from opened es) < slices_of n → Underway (ends_of p (run es opened)) × Unreported p m.serial (run es opened)
    not_before few =
        let b = Runs.not_before p start o es c few in
        let w = run es opened in
        (underway m (ends_of p w) b.0 b.2.delivering b.1, unreported p start o b.0 w b.2 b.1)

    pub from_then : slices_of n ≤ owns (kinds m.from opened es) → Arrived (run es opened)
    from_then enough = arrived (run es opened) (Runs.from_then p start o es c enough)

    pub in_time : cycle_length (master_of start.cells p.master) * slices_of n ≤ length (slots (kinds m.from opened es)) → Arrived (run es opened)
    in_time long = arrived (run es opened) (Runs.in_time p start o es c long)

  -- so T's slice with that number is the one that does it
  pub exactly_then : (es : List Event) (e : Event) → Conducted p m opened (es ++ e ∷ []) → kind_of m.from e (run es opened) ≡ own
      → suc (owns (kinds m.from opened es)) ≡ slices_of n
      → (Underway (ends_of p (run es opened)) × Unreported p m.serial (run es opened)) × Arrived (run (es ++ e ∷ []) opened)
  exactly_then es e c mine number =
      let all : owns (kinds m.from opened (es ++ e ∷ [])) ≡ slices_of n = rw (Runs.kinds_append, owns_append, mine) (omega arith) in
      (not_before es (Runs.conducted_before p m es (e ∷ []) opened c) (omega arith), from_then (es ++ e ∷ []) c (omega arith))
