-- Demand 3, proved. The proofs stand in `Laws`.
-- Assumes nothing.
use Rattle.std.specs.Prelude.{List, [], ◌∷◌, ◌++◌, ◌≡◌, suc}
use Rattle.words.specs.Slices.{slices_of}
use Rattle.promise.proofs.Laws.Demand3 as Laws
use Rattle.promise.specs.Kinds.{kind_of, own}
use Rattle.promise.specs.Opening.{Opening}
use Rattle.promise.proofs.Laws.Opens.{opens}
use Rattle.promise.proofs.Laws.Progress as Progress
use Rattle.promise.specs.Statement.{Meets, NotYet, Promise, Succeeded, after, message, own_slices, parties, words_sent}
use Rattle.promise.specs.World.{World, Event}

module _ (start : World) (o : Opening start) where
  -- every run of events that meets the conditions keeps the promise
  pub demand_3 : (es : List Event) → Meets start es → Promise start es
  demand_3 es c =
      let p = parties start in
      record {
        not_before = λ few. Laws.not_before p start (opens start o) es c few;
        from_then = λ enough. Laws.from_then p start (opens start o) es c enough;
        in_time = λ long. Laws.in_time p start (opens start o) es c long;
      }

  -- on exactly its transmitter's slice: the one with that number ends what was under way until then
  pub exactly_then : (es : List Event) (e : Event) → Meets start (es ++ e ∷ []) → kind_of (message start).from e (after start es) ≡ own
      → suc (own_slices start es) ≡ slices_of (words_sent start) → NotYet start (after start es) × Succeeded start (after start (es ++ e ∷ []))
  exactly_then = Laws.exactly_then (parties start) start (opens start o)

  -- and from every opening there is such a run, so that the message does arrive
  pub arrives : (es : List Event) × Meets start es × Succeeded start (after start es)
  arrives = Progress.arrives (parties start) start (opens start o)
