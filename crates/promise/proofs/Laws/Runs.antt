-- Runs of events from an opening on: the message stands where the number of T's slices puts it, and the slices are those of the master's
-- ring.
-- Assumes nothing.
use Rattle.std.specs.Prelude.{false, ◌≡◌, ℕ, ◌*◌, ◌≤◌, ◌<◌, length}
use mathlib.Core.List.{List, [], ◌∷◌, ◌++◌}
use Rattle.std.proofs.Math.Path.{refl, subst⁻¹}
use Rattle.std.proofs.Common.{ap, subst, ◌∙◌, arith}
use Rattle.frames.specs.Laws.Leaves.{stays, master_within}
use Rattle.cells.specs.Fitted.{master_of}
use Rattle.delivery.specs.Ends.{Message}
use Rattle.delivery.specs.Laws.Slices as Slices
use Rattle.delivery.specs.Laws.Slices.{State, times}
use Rattle.frames.specs.Laws.Slices.{master_fitted}
use Rattle.master.specs.Cycle.{cycle_length}
use Rattle.master.specs.Laws.CycleLaws.{length_cycle}
use Rattle.master.specs.Laws.Rotation.{Among, among_rotated, length_rotated}
use Rattle.words.specs.Slices.{slices_of}
use Rattle.promise.specs.Conditions.{Conducted}
use Rattle.promise.proofs.Laws.Counting.{Fair, owns_slots, reached}
use Rattle.promise.proofs.Laws.Events.{follows}
use Rattle.promise.specs.Kinds.{Kind, own, other, quiet, kind_of, kinds, owns, slots}
use Rattle.promise.proofs.Laws.Opened.{in_ring, opened_stands, opened_turns}
use Rattle.promise.specs.Opening.{Parties, message_in}
use Rattle.promise.proofs.Laws.Opens.{Opens}
use Rattle.promise.proofs.Laws.Rings.{around, before_around, fair}
use Rattle.promise.proofs.Laws.Standing.{Standing, onward, ring_of}
use Rattle.promise.specs.World.{World, Event, run, slice, step}

-- ---- a run and another after it

pub kinds_append : (address : ℕ) (es fs : List Event) (w : World) → kinds address w (es ++ fs) ≡ kinds address w es ++ kinds address (run es w) fs
kinds_append address [] fs w = refl
kinds_append address (e ∷ es) fs w = ap (λ ks. kind_of address e w ∷ ks) (kinds_append address es fs (step e w))

pub conducted_before : (p : Parties) (m : Message) (es fs : List Event) (w : World) → Conducted p m w (es ++ fs) → Conducted p m w es
conducted_before p m [] fs w c = tt
conducted_before p m (e ∷ es) fs w c = (c.0, conducted_before p m es fs (step e w) c.1)

-- ---- where the message stands

counted : (n : ℕ) (k : Kind) (ks : List Kind) (q : State) → times (Slices.slice n) (owns ks) (onward n k q) ≡ times (Slices.slice n) (owns (k ∷ ks)) q
counted n own ks q = refl
counted n other ks q = refl
counted n quiet ks q = refl

module _ (p : Parties) (start : World) (o : Opens p start) where
  abbrev m : Message
  m = message_in p start

  abbrev n : ℕ
  n = length m.content

  abbrev opened : World
  opened = step (slice 0 0) start

  stands : (es : List Event) (w : World) (q : State) → Conducted p m w es → Standing p start q w
      → Standing p start (times (Slices.slice n) (owns (kinds m.from w es)) q) (run es w)
  stands [] w q c s = s
  stands (e ∷ es) w q c s =
      let k = kind_of m.from e w in
      subst (λ (r : State). Standing p start r (run es (step e w))) (counted n k (kinds m.from (step e w) es) q)
      (stands es (step e w) (onward n k q) c.1 (follows p start o q w s e c.0).standing)

  module _ (es : List Event) (c : Conducted p m opened es) where
    abbrev ks : List Kind
    ks = kinds m.from opened es

    at_last : Standing p start (times (Slices.slice n) (owns ks) Slices.opened) (run es opened)
    at_last = stands es opened Slices.opened c (opened_stands p start o)

    -- with fewer of T's slices it is not done, and with so many it is
    pub not_before : owns ks < slices_of n → (q : State) × (q ≡ State.done → ⊥) × Standing p start q (run es opened)
    not_before few =
        (times (Slices.slice n) (owns ks) Slices.opened, λ e. omega (arith, (Slices.success n o.conditions.some (owns ks)).0 e), at_last)

    pub from_then : slices_of n ≤ owns ks → Standing p start State.done (run es opened)
    from_then enough =
        subst (λ (q : State). Standing p start q (run es opened)) ((Slices.success n o.conditions.some (owns ks)).1 enough) at_last

  -- ---- the slices of a run are those of the master's ring, which turns in each of them

  by_ring : (es : List Event) (w : World) (q : State) → Conducted p m w es → Standing p start q w
      → slots (kinds m.from w es) ≡ around m.from (length (slots (kinds m.from w es))) (ring_of p w)
  unfolding around
  by_ring [] w q c s = refl
  by_ring (e ∷ es) w q c s =
      let f = follows p start o q w s e c.0 in
      before_around m.from (kind_of m.from e w) (kinds m.from (step e w) es) (ring_of p w) (ring_of p (step e w)) f.turning
      (by_ring es (step e w) _ c.1 f.standing)

  round_is : length (ring_of p opened) ≡ cycle_length (master_of start.cells p.master)
  round_is =
      ap length (opened_turns p start o)
      ∙ length_rotated (ring_of p start)
      ∙ length_cycle (master_of start.cells p.master) (master_within (stays o.ranged) p.master (master_fitted start.cells o.ranged 0 false p.master o.mastered))

  module _ (es : List Event) (c : Conducted p m opened es) where
    abbrev round : ℕ
    round = cycle_length (master_of start.cells p.master)

    abbrev all : List Kind
    all = slots (kinds m.from opened es)

    served : Fair round all
    served =
        let among : Among m.from (ring_of p opened) =
        subst⁻¹ (Among m.from) (opened_turns p start o) (among_rotated m.from (ring_of p start) (in_ring p start o)) in
        subst⁻¹ (Fair round) (by_ring es opened Slices.opened c (opened_stands p start o))
        (subst (λ (l : ℕ). Fair l (around m.from (length all) (ring_of p opened))) round_is (fair m.from (length all) (ring_of p opened) among))

    -- so it is done once L times as many slices have passed
    pub in_time : round * slices_of n ≤ length all → Standing p start State.done (run es opened)
    in_time long = from_then es c (rw owns_slots at (reached round all served (slices_of n) long))
