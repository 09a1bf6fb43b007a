-- A load of words that were built in T's memory: a move of T's takes the next of them into its silo.
-- Assumes nothing.
use Rattle.std.specs.Prelude.{true, false, List, [], ◌∷◌, ◌++◌, ◌≡◌, ℕ, ◌+◌, ◌-◌, ◌/◌, ◌^◌, ◌≤◌, ◌<◌, length, get_or, take, drop}
use Rattle.std.proofs.Common.{ap, ap₂, sym, ◌∙◌, add-one, arith, lit≤, length-append, length-drop, get_or-append-add, length-take-le, take-suc}
use Rattle.std.proofs.Math.Path.{subst⁻¹}
use Rattle.cells.specs.Fitted.{transmitter_of}
use Rattle.cells.specs.Layout.{memory_length}
use Rattle.cells.specs.Laws.FrameLaws.{memory_length_kept}
use Rattle.delivery.specs.Conditions.{Stretch}
use Rattle.delivery.specs.Laws.Loading as Moving
use Rattle.delivery.specs.Laws.Loads.{loaded_some, next_place, one_moved}
use Rattle.ends.specs.Ends as E
use Rattle.frames.specs.Laws.Leaves.{stays, transmitter_within}
use Rattle.frames.specs.Laws.Moves.{transmitter_move}
use Rattle.frames.specs.Laws.Sides.{replaced_here, sides_of}
use Rattle.laws.specs.Pick.{by}
use Rattle.moves.specs.Moving.{transmitter_moved}
use Rattle.pcl.specs.Sides.{sent_by}
use Rattle.promise.specs.World.{World, move, moved_by, step}
use Rattle.outcomes.specs.Laws.MoveCalls.{sender_call}
use Rattle.readings.specs.Messages.{lent, message_of}
use Rattle.readings.proofs.Laws.BuildLaws.{build_made}
use Rattle.readings.proofs.Laws.InverseLaws.{message_long}
use Rattle.silos.specs.Laws.Laws.{words_put}
use Rattle.transmitter.specs.Moves as T
use Rattle.transmitter.specs.declared.side.Transmitter.{Transmitter}
use Rattle.words.specs.Load.{words_left}
use Rattle.arrival.specs.InMemory.{InMemory, Loading}

module _ (t : Transmitter) (memory numbers : List ℕ) (words : ℕ) (h : InMemory t memory numbers words) where
  -- ---- where the words stand

  pub place_within : length (take h.place h.before) ≡ h.place
  place_within =
      let made = build_made 1 numbers (drop h.place h.before) words h.left h.built in
      length-take-le h.place h.before (omega (arith, made.enough, length-drop h.place h.before))

  all_there : words ≤ length h.left
  all_there =
      let room = drop h.place h.before in
      let made = build_made 1 numbers room words h.left h.built in
      let m = message_of (lent numbers) in
      omega (arith, ap length made.left ∙ length-append m (drop (length m) room), message_long (lent numbers), made.counted)

  next_word : get_or memory (t.end.load.address.0 / 2) 0 ≡ get_or h.left h.moved 0
  next_word =
      let front = take h.place h.before in
      ap₂ (λ (l : List ℕ) (k : ℕ). get_or l k 0) h.stands h.next
      ∙ ap (λ (k : ℕ). get_or (front ++ h.left) (k + h.moved) 0) (sym place_within)
      ∙ get_or-append-add front h.left h.moved 0

  -- ---- a move that goes well

  module _ (within : E.Within t.end) (fitted : ℕ) (stretch : Stretch (t.end.load.address.0 / 2) (words_left t.end.load) fitted) (may : T.may_move t ≡ true) where
    some : 1 ≤ words_left t.end.load
    some = loaded_some t.end.load within.load (Moving.loaded_and_room t may).0

    pub inside : t.end.load.address.0 / 2 < fitted
    inside = omega (arith, stretch.inside 0 some)

    pub short : t.end.load.address.0 < 2 ^ 18 - 2
    short = omega (arith, stretch.short 0 some, within.load.even_address)

    fewer : words_left (Moving.after t memory).end.load + 1 ≡ words_left t.end.load
    fewer = one_moved t.end.load within.load (Moving.loaded_and_room t may).0

    further : (Moving.after t memory).end.load.address.0 ≡ t.end.load.address.0 + 2
    further = next_place t.end.load within.load short

    pub one_more : InMemory (Moving.after t memory) memory numbers words
    one_more =
        record {
          before = h.before;
          place = h.place;
          left = h.left;
          built = h.built;
          stands = h.stands;
          moved = h.moved + 1;
          in_silo =
              words_put 64 (lit≤ tt) t.end.silo within.silo (get_or memory (t.end.load.address.0 / 2) 0) (Moving.loaded_and_room t may).1
              ∙ ap₂ (λ (l : List ℕ) (word : ℕ). l ++ (word ∷ [])) h.in_silo next_word
              ∙ sym (take-suc h.left h.moved 0 (omega (arith, all_there, some, h.others)))
              ∙ ap (λ (k : ℕ). take k h.left) (sym (add-one h.moved));
          others = omega (arith, fewer, h.others);
          next = omega (arith, further, h.next);
        }

    pub stretch_on : Stretch ((Moving.after t memory).end.load.address.0 / 2) (words_left (Moving.after t memory).end.load) fitted
    stretch_on =
        record {
          inside = λ i l. omega (arith, stretch.inside (i + 1) (omega (arith, fewer, l)), further);
          short = λ i l. omega (arith, stretch.short (i + 1) (omega (arith, fewer, l)), further);
        }

-- ---- of the side: what the move leaves

pub record Goes (t : Transmitter) (memory numbers : List ℕ) (words fitted : ℕ) : Type 0 where
  pub increments : t.modes.inhibit_increment ≡ false
  pub stretch : Stretch (t.end.load.address.0 / 2) (words_left t.end.load) fitted
  pub in_memory : InMemory t memory numbers words

side_moves : (t : Transmitter) (memory numbers : List ℕ) (words fitted : ℕ) → E.Within t.end → Goes t memory numbers words fitted
    → Goes (T.moved t memory fitted).side memory numbers words fitted
side_moves t memory numbers words fitted within g =
    let h = g.in_memory in
    by (T.may_move t)
    (λ may.
    subst⁻¹ (λ (x : Transmitter). Goes x memory numbers words fitted)
    (Moving.goes t memory fitted within.load g.increments (inside t memory numbers words h within fitted g.stretch may)
    (short t memory numbers words h within fitted g.stretch may) may)
    (record {
      increments = g.increments;
      stretch = stretch_on t memory numbers words h within fitted g.stretch may;
      in_memory = one_more t memory numbers words h within fitted g.stretch may;
    }))
    (λ none. subst⁻¹ (λ (x : Transmitter). Goes x memory numbers words fitted) (Moving.stays t memory fitted none) g)

-- ---- of the call

pub moved_once : (unit : ℕ) (w : World) (numbers : List ℕ) (words : ℕ) → Loading unit w numbers words → Loading unit (step (move unit 0) w) numbers words
moved_once unit w numbers words h =
    let cells = w.cells in
    let memory = w.memory unit in
    let t = transmitter_of cells unit in
    let n = memory_length cells unit in
    let l = transmitter_move cells h.ranged memory unit h.fitted in
    let after = (transmitter_moved cells memory unit).1 in
    let same : transmitter_of after unit ≡ (T.moved t memory n).side =
    l.holds.transmitter unit h.fitted ∙ replaced_here (sides_of cells).transmitter unit (T.moved t memory n).side in
    let kept : memory_length after unit ≡ n = memory_length_kept cells after l.kept.own unit in
    let next = moved_by w unit (sent_by memory (transmitter_moved cells memory unit)) in
    let stays_lent : next.memory unit ≡ memory = replaced_here w.memory unit memory in
    let g : Goes (T.moved t memory n).side memory numbers words n =
    side_moves t memory numbers words n (transmitter_within (stays h.ranged) unit h.fitted).end
    (record { increments = h.increments; stretch = h.stretch; in_memory = h.in_memory }) in
    let there : Goes (transmitter_of after unit) (next.memory unit) numbers words (memory_length after unit) =
    subst⁻¹ (λ (x : Transmitter). Goes x (next.memory unit) numbers words (memory_length after unit)) same
    (subst⁻¹ (λ (x : List ℕ). Goes (T.moved t memory n).side x numbers words (memory_length after unit)) stays_lent
    (subst⁻¹ (Goes (T.moved t memory n).side memory numbers words) kept g)) in
    subst⁻¹ (λ (x : World). Loading unit x numbers words) (ap (moved_by w unit) (sender_call cells h.ranged memory unit h.fitted h.lent))
    (record {
      ranged = l.ranged;
      fitted = omega (arith, l.kept.count, h.fitted);
      lent = omega (arith, kept, h.lent, ap length stays_lent);
      increments = there.increments;
      stretch = there.stretch;
      in_memory = there.in_memory;
    })
