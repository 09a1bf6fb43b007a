-- Readings that were built in T's memory and loaded from there are the message that is opened, however many of the words T's moves had
-- taken into its silo.
-- Assumes nothing.
use Rattle.std.specs.Prelude.{true, List, [], ◌∷◌, ◌++◌, ◌≡◌, refl, ℕ, zero, suc, ◌+◌, ◌/◌, take, drop, Result, Ok}
use Rattle.std.proofs.Common.{ap, ap₂, sym, ◌∙◌, arith, eqb-true, take-add}
use Rattle.std.proofs.Math.Seq.{drop-append-add}
use Rattle.cells.specs.Fitted.{transmitter_of}
use Rattle.promise.specs.Statement.{parties}
use Rattle.promise.specs.World.{World, Event, move, run, step}
use Rattle.readings.specs.Build.{build_call}
use Rattle.readings.specs.declared.answers.BuildError.{BuildError}
use Rattle.silos.specs.Silo.{is_empty}
use Rattle.transmitter.specs.declared.side.Transmitter.{Transmitter}
use Rattle.words.specs.Load.{words_left}
use Rattle.arrival.specs.InMemory.{InMemory, Loading}
use Rattle.arrival.specs.Statement.{Sent}
use Rattle.arrival.proofs.Laws.Loads.{moved_once, place_within}

-- before any move: T's silo is empty, and the load has all the words left, from where they stand
pub loaded : (t : Transmitter) (before numbers left : List ℕ) (words place : ℕ)
    → ◌≡◌ {A = Result ℕ BuildError × List ℕ} (Ok words, left) (build_call 1 numbers (drop place before)) → is_empty t.end.silo ≡ true
    → words_left t.end.load ≡ words → t.end.load.address.0 / 2 ≡ place → InMemory t (take place before ++ left) numbers words
loaded t before numbers left words place built empty all from =
    record {
      before = before;
      place = place;
      left = left;
      built = built;
      stands = refl;
      moved = 0;
      in_silo = ap (λ (k : ℕ). take k t.end.silo.cells) (eqb-true t.end.silo.held 0 empty);
      others = omega (arith, all);
      next = omega (arith, from);
    }

-- T's moves, as many as there are
abbrev pub moves : ℕ → ℕ → List Event
moves unit zero = []
moves unit (suc k) = move unit 0 ∷ moves unit k

pub moves_load : (unit k : ℕ) (w : World) (numbers : List ℕ) (words : ℕ) → Loading unit w numbers words → Loading unit (run (moves unit k) w) numbers words
moves_load unit zero w numbers words h = h
moves_load unit (suc k) w numbers words h = moves_load unit k (step (move unit 0) w) numbers words (moved_once unit w numbers words h)

-- before the slice that opens the message
pub built_in_memory : (start : World) (numbers : List ℕ) (words : ℕ)
    → InMemory (transmitter_of start.cells (parties start).sender) (start.memory (parties start).sender) numbers words
    → Sent start numbers words
built_in_memory start numbers words h =
    let t = transmitter_of start.cells (parties start).sender in
    let others = words_left t.end.load in
    let front = take h.place h.before in
    let behind : drop (h.place + h.moved) (front ++ h.left) ≡ drop h.moved h.left =
    ap (λ (k : ℕ). drop (k + h.moved) (front ++ h.left)) (sym (place_within t (start.memory (parties start).sender) numbers words h))
    ∙ drop-append-add front h.left h.moved in
    record {
      room = drop h.place h.before;
      left = h.left;
      built = h.built;
      opened =
          ap₂ (λ (a b : List ℕ). a ++ take others b) h.in_silo (ap₂ (λ (k : ℕ) (l : List ℕ). drop k l) h.next h.stands ∙ behind)
          ∙ sym (take-add h.moved others h.left)
          ∙ ap (λ (k : ℕ). take k h.left) h.others;
    }
