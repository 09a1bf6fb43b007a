-- The conditions can be kept: from every opening on, moves and slices can come, and the message is delivered.
-- Assumes nothing.
use Rattle.std.specs.Prelude.{false, List, [], ◌∷◌, ◌≡◌, refl, ℕ, zero, suc, ◌+◌, ◌≤◌, ◌<◌, eqb, length, get_or}
use Rattle.std.proofs.Common.{ap, subst, ◌∙◌, arith, ltb-true}
use Rattle.std.proofs.Math.Path.{subst⁻¹}
use Rattle.std.proofs.lemmas.Bool.{eqb-false}
use Rattle.cells.specs.Fitted.{transmitter_of, receiver_of}
use Rattle.delivery.specs.Ends.{Message}
use Rattle.delivery.specs.Laws.Loading as Loading
use Rattle.delivery.specs.Laws.Slices as Slices
use Rattle.delivery.specs.Laws.Slices.{State}
use Rattle.delivery.specs.Laws.Storing as Storing
use Rattle.frames.specs.Laws.Slices.{next_address}
use Rattle.laws.specs.Pick.{by}
use Rattle.master.specs.Laws.Rotation.{Among, among_rotated}
use Rattle.receiver.specs.Moves as R
use Rattle.transmitter.specs.Moves as T
use Rattle.transmitter.specs.declared.side.Transmitter.{Transmitter}
use Rattle.words.specs.Slices.{slices_of}
use Rattle.promise.specs.Conditions.{Allowed, Conducted}
use Rattle.promise.proofs.Laws.Demand3.{Arrived, from_then}
use Rattle.promise.proofs.Laws.Events.{follows}
use Rattle.promise.proofs.Laws.Follows.{Follows}
use Rattle.promise.specs.Kinds.{Kind, own, other, kind_of, kinds, owns}
use Rattle.promise.proofs.Laws.Opened.{in_ring, opened_stands, opened_turns}
use Rattle.promise.specs.Opening.{Parties, message_in}
use Rattle.promise.proofs.Laws.Opens.{Opens}
use Rattle.promise.proofs.Laws.Ready.{Ready, one_in, one_out, receiver_may, sender_left, sender_may, slice_comes, slice_may, still_ready}
use Rattle.promise.proofs.Laws.Rings.{turned_to}
use Rattle.promise.proofs.Laws.Standing.{ring_of}
use Rattle.promise.specs.World.{World, Event, move, run, slice, step}

module _ (p : Parties) (start : World) (o : Opens p start) where
  abbrev m : Message
  m = message_in p start

  abbrev opened : World
  opened = step (slice 0 0) start

  -- events that the conditions allow from here, k of them slices of T's
  abbrev pub Can : ℕ → World → Type 0
  Can k w = (es : List Event) × Conducted p m w es × (owns (kinds m.from w es) ≡ k)

  -- ---- move until 4

  module _ (k j : ℕ) (q : State) where
    after_loading : (fuel : ℕ) (w : World) → Ready p start o j q w → 64 ≤ fuel + (transmitter_of w.cells p.sender).end.silo.held
        → ((y : World) → Ready p start o j q y → T.may_move (transmitter_of y.cells p.sender) ≡ false → Can k y) → Can k w
    after_loading zero w r full then =
        by (T.may_move (transmitter_of w.cells p.sender))
        (λ may. absurd (omega (arith, ltb-true (transmitter_of w.cells p.sender).end.silo.held 64 (Loading.loaded_and_room (transmitter_of w.cells p.sender) may).1)))
        (λ waits. then w r waits)
    after_loading (suc fuel) w r enough then =
        by (T.may_move (transmitter_of w.cells p.sender))
        (λ may.
        let rest =
        after_loading fuel (step (move p.sender 0) w) (still_ready p start o j q w r p.sender 0 (sender_may p start o j q w r)) (omega (arith, one_in p start o j q w r may)) then in
        (move p.sender 0 ∷ rest.0, (sender_may p start o j q w r, rest.1), rest.2))
        (λ waits. then w r waits)

    after_storing : (fuel : ℕ) (w : World) → Ready p start o j q w → (receiver_of w.cells p.receiver).end.silo.held ≤ fuel
        → T.may_move (transmitter_of w.cells p.sender) ≡ false
        → ((y : World) → Ready p start o j q y → T.may_move (transmitter_of y.cells p.sender) ≡ false → R.may_move (receiver_of y.cells p.receiver) ≡ false → Can k y)
        → Can k w
    after_storing zero w r empty waits then =
        by (R.may_move (receiver_of w.cells p.receiver))
        (λ may. absurd (omega (arith, eqb-false (receiver_of w.cells p.receiver).end.silo.held 0 (Storing.some_word (receiver_of w.cells p.receiver) may))))
        (λ stopped. then w r waits stopped)
    after_storing (suc fuel) w r enough waits then =
        by (R.may_move (receiver_of w.cells p.receiver))
        (λ may.
        let rest =
        after_storing fuel (step (move p.receiver 1) w) (still_ready p start o j q w r p.receiver 1 (receiver_may p start o j q w r)) (omega (arith, one_out p start o j q w r may))
        (subst⁻¹ (λ (x : Transmitter). T.may_move x ≡ false) (sender_left p start o j q w r) waits) then in
        (move p.receiver 1 ∷ rest.0, (receiver_may p start o j q w r, rest.1), rest.2))
        (λ stopped. then w r waits stopped)

  -- ---- slices until T's own

  module _ (k : ℕ) (later : (j : ℕ) (q : State) (w : World) → Ready p start o j q w → Can k w) where
    taken : (j : ℕ) (q : State) (w : World) (r : Ready p start o j q w) → Allowed p m (slice 0 0) w → kind_of m.from (slice 0 0) w ≡ own → Can (suc k) w
    taken j q w r a mine =
        let f : Follows p start q w own (step (slice 0 0) w) =
        subst (λ (kind : Kind). Follows p start q w kind (step (slice 0 0) w)) mine (follows p start o q w r.standing (slice 0 0) a) in
        let (i, inside, comes) : Among m.from (ring_of p (step (slice 0 0) w)) =
        subst⁻¹ (Among m.from) f.turning.1 (among_rotated m.from (ring_of p w) (j, r.inside, r.comes)) in
        let rest =
        later i (Slices.slice (length m.content) q) (step (slice 0 0) w)
        (record { standing = f.standing; lent_sender = r.lent_sender; lent_receiver = r.lent_receiver; inside = inside; comes = comes }) in
        (slice 0 0 ∷ rest.0, (a, rest.1), ap (λ (kind : Kind). owns (kind ∷ kinds m.from (step (slice 0 0) w) rest.0)) mine ∙ ap suc rest.2)

    -- moves until 4, and a slice: T's own, or another's
    a_slice : (j : ℕ) (q : State) (w : World) → Ready p start o j q w
        → ((y : World) → Ready p start o j q y → Allowed p m (slice 0 0) y → kind_of m.from (slice 0 0) y ≡ other → Can (suc k) y) → Can (suc k) w
    a_slice j q w r theirs =
        after_loading (suc k) j q 64 w r (omega arith)
        (λ x e waits. after_storing (suc k) j q (receiver_of x.cells p.receiver).end.silo.held x e (omega arith) waits
        (λ y f waits stopped.
        let a = slice_may p start o j q y f waits stopped in
        by (eqb (next_address y.cells p.master) m.from) (λ g. taken j q y f a (slice_comes p start o j q y f ∙ rw g)) (λ g. theirs y f a (slice_comes p start o j q y f ∙ rw g))))

    passes : (j : ℕ) (q : State) (w : World) (r : Ready p start o j q w) → Allowed p m (slice 0 0) w → kind_of m.from (slice 0 0) w ≡ other
        → Follows p start q w other (step (slice 0 0) w)
    passes j q w r a theirs =
        subst (λ (kind : Kind). Follows p start q w kind (step (slice 0 0) w)) theirs (follows p start o q w r.standing (slice 0 0) a)

    in_turn : (j : ℕ) (q : State) (w : World) → Ready p start o j q w → Can (suc k) w
    in_turn zero q w r = a_slice zero q w r (λ y f a theirs. absurd ((passes zero q y f a theirs).turning.0 f.comes))
    in_turn (suc j) q w r =
        a_slice (suc j) q w r
        (λ y f a theirs.
        let g = passes (suc j) q y f a theirs in
        let (inside, comes) = turned_to m.from j (ring_of p y) f.inside f.comes in
        let rest =
        in_turn j q (step (slice 0 0) y)
        (record {
          standing = g.standing;
          lent_sender = f.lent_sender;
          lent_receiver = f.lent_receiver;
          inside = subst⁻¹ (λ (ring : List ℕ). j < length ring) g.turning.1 inside;
          comes = subst⁻¹ (λ (ring : List ℕ). get_or ring j 0 ≡ m.from) g.turning.1 comes;
        }) in
        (slice 0 0 ∷ rest.0, (a, rest.1), ap (λ (kind : Kind). owns (kind ∷ kinds m.from (step (slice 0 0) y) rest.0)) theirs ∙ rest.2))

  pub can_come : (k j : ℕ) (q : State) (w : World) → Ready p start o j q w → Can k w
  can_come zero j q w r = ([], tt, refl)
  can_come (suc k) j q w r = in_turn k (can_come k) j q w r

  -- ---- from the opening on

  pub arrives : (es : List Event) × Conducted p m opened es × Arrived p start o (run es opened)
  arrives =
      let (j, inside, comes) : Among m.from (ring_of p opened) =
      subst⁻¹ (Among m.from) (opened_turns p start o) (among_rotated m.from (ring_of p start) (in_ring p start o)) in
      let can =
      can_come (slices_of (length m.content)) j Slices.opened opened
      (record {
        standing = opened_stands p start o;
        lent_sender = o.conditions.sending_lent;
        lent_receiver = o.conditions.receiving_lent;
        inside = inside;
        comes = comes;
      }) in
      (can.0, can.1, from_then p start o can.0 can.1 (omega (arith, can.2)))
