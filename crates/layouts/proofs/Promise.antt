-- How words lie in the cells makes no difference. Document 02, No. 7: "For every call from every valid state the answer, the words in order
-- and the registers are proved equal to those of the shifting layout, once over the silo's size so that 64 and 50 share it." What it says
-- stands in `Statement`, and the proofs in `Laws`.
-- Assumes nothing.
use Rattle.std.specs.Prelude.{true, List, [], ◌∷◌, ◌≡◌, refl, ℕ, ◌≤◌, ◌<◌}
use Rattle.std.proofs.Common.{sym, ap, subst, ◌∙◌}
use Rattle.cells.specs.Layout.{count_in}
use Rattle.cells.specs.Ranges.{in_range}
use Rattle.codec.specs.Rings.{start_for}
use Rattle.codec.proofs.Laws.EndLaws.{sized_of, silo_laid}
use Rattle.codec.proofs.Laws.RingLaws.{start_for_lt}
use Rattle.codec.proofs.Laws.SiloLaws.{put_cells, oldest_is_lem, taken_cells}
use Rattle.promise.specs.World.{World, Event, read, Handed, AllHanded, step, run}
use Rattle.layouts.specs.Answers.{Answer, answer_of}
use Rattle.layouts.specs.Layouts.{Layout, going_round, shifting}
use Rattle.layouts.specs.Runs.{laid_in, step_in, run_in, answers_in}
use Rattle.layouts.specs.Same.{SameWorld}
use Rattle.layouts.specs.Shifting.{UnitFromFirst}
use Rattle.layouts.specs.Statement.{Stands, GoesRound, Alike, AlikeIn, AsShifting, here, there}
use Rattle.layouts.specs.Laws.Events.{event_alike}
use Rattle.layouts.specs.Laws.Sames.{same_all, same_back, same_then}
use Rattle.layouts.specs.Laws.Shifting.{shifted_first}

-- a silo of any size goes round in its cells
pub goes_round : (size : ℕ) → 1 ≤ size → size ≤ 64 → (place : ℕ) (ring : List ℕ) → Stands size place ring → GoesRound size place ring
goes_round size some most place ring h =
    let sized = sized_of size place ring some most h.long in
    record {
      comes = put_cells size some most place ring h.long h.few h.near sized;
      oldest_is = oldest_is_lem size some most place ring h.long h.few h.near sized;
      goes = taken_cells size some most place ring h.long h.few h.near sized;
      back = λ silo s. silo_laid size some most silo s (start_for size place silo.held) (start_for_lt size place silo.held some) ring h.long;
    }

-- "For every call from every valid state", in whatever layout either lies
pub every_call : (e : Event) → Handed e → (w v : World) → SameWorld w v → Alike e w v
every_call e handed w v same = event_alike same e handed

-- laid anew
laid_same : (one other : Layout) {w v : World} → SameWorld w v → SameWorld (laid_in one w) (laid_in other v)
laid_same one other {w} {v} h =
    let c = h.cells in
    record {
      cells = same_then (same_back (one.same w.cells c.ranged)) (same_then c (other.same v.cells c.other_ranged));
      memory = h.memory;
    }

-- For every run of calls, with the layout as a parameter: the same answers, and at the end the same words in order, registers and
-- memories
pub layouts_agree : (one other : Layout) (es : List Event) → AllHanded es → (w v : World) → SameWorld w v → AlikeIn one other es w v
layouts_agree one other [] handed w v same = record { answers = refl; after = same }
layouts_agree one other (e ∷ es) handed w v same =
    let first = every_call e handed.0 w v same in
    let rest = layouts_agree one other es handed.1 (step_in one e w) (step_in other e v) (laid_same one other first.after) in
    record {
      answers =
          ap (λ (a : Answer). a ∷ answers_in one es (step_in one e w)) first.answer ∙ ap (λ (l : List Answer). answer_of e v ∷ l) rest.answers;
      after = rest.after;
    }

-- ---- the shifting layout

laid_is : (layout : Layout) (w : World) → in_range w.cells ≡ true → SameWorld w (laid_in layout w)
laid_is layout w ok = record { cells = layout.same w.cells ok; memory = λ unit. refl }

-- where words go round, a run is what the link does
round_is : (es : List Event) (w : World) → run_in going_round es w ≡ run es w
round_is [] w = refl
round_is (e ∷ es) w = round_is es (step e w)

-- every silo lies from its first cell on, after every call
each_shifted : (es : List Event) → AllHanded es → (w : World) → in_range w.cells ≡ true
    → (unit : ℕ) → unit < count_in (there es w).cells → UnitFromFirst (there es w).cells unit
each_shifted [] handed w ok unit fitted =
    shifted_first w.cells ok unit (subst (λ (n : ℕ). unit < n) (laid_is shifting w ok).cells.count fitted)
each_shifted (e ∷ es) handed w ok unit fitted =
    let v = laid_in shifting w in
    let stays : SameWorld v v = record { cells = same_all (laid_is shifting w ok).cells.other_ranged; memory = λ k. refl } in
    each_shifted es handed.1 (step e v) (every_call e handed.0 v v stays).after.cells.ranged unit fitted

-- "equal to those of the shifting layout": every run of calls from every valid state
pub as_shifting : (es : List Event) → AllHanded es → (w : World) → in_range w.cells ≡ true → AsShifting es w
as_shifting es handed w ok =
    let a = layouts_agree going_round shifting es handed w (laid_in shifting w) (laid_is shifting w ok) in
    let after : SameWorld (here es w) (there es w) = subst (λ (x : World). SameWorld x (there es w)) (round_is es w) a.after in
    let sides = after.cells.sides in
    record {
      answers = a.answers;
      registers = λ unit offset. (every_call (read unit offset) tt (here es w) (there es w) after).answer;
      transmitters = sides.transmitter;
      receivers = sides.receiver;
      masters = sides.master;
      count = sym after.cells.count;
      holder = sides.holder;
      own = after.cells.own;
      memory = λ unit. sym (after.memory unit);
      shifted = each_shifted es handed w ok;
    }
