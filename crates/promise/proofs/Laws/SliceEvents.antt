-- A slice call where a message stands: T's own takes it on, another's leaves it, and one answered 7 is none.
-- Assumes nothing.
use Rattle.std.specs.Prelude.{Bool, false, not, List, ◌≡◌, refl, ℕ, eqb, ltb, length, Result, Err, Option}
use Rattle.std.proofs.Common.{ap, subst, sym, ◌∙◌, eqb-true}
use Rattle.std.proofs.Math.Path.{subst⁻¹}
use Rattle.std.proofs.lemmas.Bool.{eqb-false}
use Rattle.bus.specs.Slice.{slice_passed}
use Rattle.cells.specs.Fitted.{transmitter_of, receiver_of}
use Rattle.cells.specs.Index.{receiver_with}
use Rattle.delivery.specs.Laws.Calls.{MovedUntil4, with}
use Rattle.delivery.specs.Ends.{Ends, Message}
use Rattle.promise.specs.Kinds.{Kind, own, other, kind_of, slice_kind}
use Rattle.delivery.specs.Laws.Invariant.{Delivering}
use Rattle.delivery.specs.Laws.Others.{addressed}
use Rattle.delivery.specs.Laws.Slices.{State}
use Rattle.delivery.proofs.Laws.Slicing.{own_slice}
use Rattle.frames.specs.Laws.Serving.{heard_on, unit_for}
use Rattle.frames.specs.Laws.Slices.{SlicePasses, next_address, next_on, slice_heard}
use Rattle.laws.specs.Pick.{by, here, past, pick}
use Rattle.outcomes.specs.Unchanged.{leaves_all}
use Rattle.pcl.specs.Link.{slice_call}
use Rattle.pcl.specs.Numbers.{slice_number}
use Rattle.slices.specs.Slice.{exchanged}
use Rattle.slices.specs.declared.Pair.{Pair}
use Rattle.promise.specs.Conditions.{Allowed, OwnSlice}
use Rattle.promise.proofs.Laws.Exchanges.{exchange_stands}
use Rattle.promise.proofs.Laws.SliceCalls.{ring_first, ring_turns, slice_call_lem, slice_kind_lem}
use Rattle.promise.proofs.Laws.Follows.{Follows, nothing_done, receiver_found, receiver_fitted, receiver_near, sender_found, sender_fitted, sender_near, undisturbed}
use Rattle.promise.proofs.Laws.MoveAnswers.{moved_until_4}
use Rattle.promise.specs.Opening.{Parties, ends_of, message_in}
use Rattle.promise.proofs.Laws.Opens.{Opens}
use Rattle.promise.proofs.Laws.OtherSlices.{other_follows}
use Rattle.promise.proofs.Laws.Standing.{Standing, onward}
use Rattle.promise.specs.World.{World, slice, step, with_cells}
use Rattle.words.specs.declared.answers.Refusal.{Refusal}
use Rattle.bus.specs.declared.slice.Given.{Given}

module _ (p : Parties) (start : World) (o : Opens p start) (q : State) (w : World) (s : Standing p start q w) (mask : ℕ) (parity : Bool) where
  abbrev m : Message
  m = message_in p start

  abbrev x : Ends
  x = ends_of p w

  abbrev address : ℕ
  address = next_address w.cells p.master

  abbrev after : List ℕ
  after = (slice_passed w.cells mask parity).1

  -- ---- T's own

  module _ (mine : address ≡ m.from) where
    heard : SlicePasses w.cells mask parity p.master (heard_on (next_on w.cells p.master) p.sender p.receiver address mask parity)
    heard =
        slice_heard w.cells s.ranged mask parity p.master s.mastered p.sender
        (ap (unit_for w.cells) mine ∙ sender_found p start o q w s) (sender_near p start o q w s) p.receiver
        (ap (receiver_with w.cells) (addressed m q x s.delivering) ∙ receiver_found p start o q w s) (receiver_near p start o q w s)

    own_follows : mask ≡ 0 → parity ≡ false → MovedUntil4 m x → Follows p start q w own (with_cells w after)
    own_follows none even until =
        let t = transmitter_of w.cells p.sender in
        let r = receiver_of w.cells p.receiver in
        let same : exchanged t r address mask parity ≡ exchanged t r m.from 0 false =
        ap (λ (a : ℕ). exchanged t r a mask parity) mine
        ∙ ap (λ (d : ℕ). exchanged t r m.from d parity) none
        ∙ ap (exchanged t r m.from 0) even in
        let next = onward (length m.content) own q in
        record {
          standing =
              exchange_stands p start w s.kept s.mastered (sender_fitted p start o q w s) (receiver_fitted p start o q w s) mask parity next heard
              (subst⁻¹ (λ (e : Pair). Delivering m next (with x e)) same (own_slice m q x s.delivering until));
          turning = (
            sym (ring_first w.cells s.ranged mask parity p.master s.mastered) ∙ mine,
            ring_turns w.cells s.ranged mask parity p.master s.mastered,
          );
        }

-- ---- the call

module _ (p : Parties) (start : World) (o : Opens p start) (q : State) (w : World) (s : Standing p start q w) (mask parity : ℕ) where
  abbrev By : Result (Option Given) Refusal × List ℕ → Type 0
  By r = Follows p start q w (slice_kind (message_in p start).from r.0) (with_cells w r.1)

  pub slice_follows : Allowed p (message_in p start) (slice mask parity) w
      → Follows p start q w (kind_of (message_in p start).from (slice mask parity) w) (step (slice mask parity) w)
  slice_follows allowed =
      by (ltb 1 parity)
      (λ many.
      let refused : (Err Refusal.BadMask, w.cells) ≡ slice_call w.cells mask parity =
      past _ (ap not s.ranged) (here _ many refl) in
      subst By refused (undisturbed p start q w s w.cells (nothing_done p start q w s)))
      (λ few.
      let call = slice_call_lem w.cells s.ranged mask parity p.master s.mastered few in
      let kind = slice_kind_lem w.cells s.ranged mask parity p.master s.mastered few (message_in p start).from in
      subst⁻¹ (λ (k : Kind). Follows p start q w k (step (slice mask parity) w)) kind
      (subst⁻¹ (λ (r : Result (Option Given) Refusal × List ℕ). Follows p start q w (pick (eqb (next_address w.cells p.master) (message_in p start).from) own other) (with_cells w r.1)) call
      (by (eqb (next_address w.cells p.master) (message_in p start).from)
      (λ e.
      let c : OwnSlice p mask parity w = allowed (ap (λ (r : Result (Option Given) Refusal × List ℕ). leaves_all (slice_number r.0)) call) (kind ∙ rw e) in
      rw e
      (own_follows p start o q w s mask (eqb parity 1) (eqb-true _ _ e) c.data_undamaged (ap (λ (d : ℕ). eqb d 1) c.parity_undamaged)
      (moved_until_4 p start o q w s c.sender_moved c.receiver_moved)))
      (λ e. rw e (other_follows p start o q w s mask (eqb parity 1) (eqb-false _ _ e))))))
