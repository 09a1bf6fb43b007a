-- A slice of another transmitter's leaves a message where it stands.
-- Assumes nothing.
use Rattle.std.specs.Prelude.{Bool, List, ◌≡◌, refl, ℕ, ◌<◌}
use Rattle.std.proofs.Common.{ap, subst, sym, ◌∙◌}
use Rattle.bus.specs.Slice.{slice_passed}
use Rattle.cells.specs.Fitted.{transmitter_of, receiver_of}
use Rattle.cells.specs.Layout.{transmitter_address}
use Rattle.cells.specs.Laws.FrameLaws.{transmitter_address_kept}
use Rattle.delivery.specs.Ends.{Ends, Message}
use Rattle.promise.specs.Kinds.{other}
use Rattle.delivery.specs.Laws.Others.{others}
use Rattle.delivery.specs.Laws.Slices.{State}
use Rattle.frames.specs.Laws.Others.{slice_holder, slice_other_transmitter}
use Rattle.frames.specs.Laws.Kept.{indexed_kept}
use Rattle.frames.specs.Laws.Leaves.{master_within, stays}
use Rattle.frames.specs.Laws.Serving.{in_each, receiver_for, unit_has, unit_for}
use Rattle.frames.specs.Laws.Sides.{Sides, replaced_same}
use Rattle.frames.specs.Laws.Slices.{next_address, next_on, slice_passes}
use Rattle.master.specs.Laws.Laws.{next_lt}
use Rattle.slices.specs.Slice.{exchanged}
use Rattle.promise.proofs.Laws.SliceCalls.{ring_first, ring_turns}
use Rattle.promise.proofs.Laws.Follows.{Follows, Spares, master_fitted, receiver_fitted, sender_fitted, sender_near, spared}
use Rattle.promise.specs.Opening.{Parties, ends_of, message_in}
use Rattle.promise.proofs.Laws.Opens.{Opens}
use Rattle.promise.proofs.Laws.Standing.{Standing}
use Rattle.promise.specs.World.{World, with_cells}

module _ (p : Parties) (start : World) (o : Opens p start) (q : State) (w : World) (s : Standing p start q w) (mask : ℕ) (parity : Bool) where
  abbrev m : Message
  m = message_in p start

  abbrev x : Ends
  x = ends_of p w

  abbrev address : ℕ
  address = next_address w.cells p.master

  abbrev after : List ℕ
  after = (slice_passed w.cells mask parity).1

  module _ (theirs : address ≡ m.from → ⊥) where
    -- T is not the transmitter addressed: no unit has two addresses
    not_sender : p.sender ≡ unit_for w.cells address → ⊥
    not_sender e =
        let has = transmitter_address_kept start.cells w.cells s.kept.own p.sender in
        let number : address < 32 = next_lt _ (master_within (stays s.ranged) p.master (master_fitted p start o q w s)) in
        let gets = unit_has w.cells (indexed_kept s.kept o.indexed) address number (subst (λ (u : ℕ). u < 16) e (sender_near p start o q w s)) in
        theirs (sym gets ∙ ap (transmitter_address w.cells) (sym e) ∙ has)

    spares : Spares p w.cells after
    spares =
        let cells = w.cells in
        let passes = slice_passes cells s.ranged mask parity p.master s.mastered in
        let unit = unit_for cells address in
        let there = receiver_for cells (transmitter_of cells unit) in
        record {
          ranged = passes.leaves.ranged;
          kept = passes.leaves.kept;
          holder = slice_holder cells s.ranged mask parity p.master s.mastered;
          transmitter = slice_other_transmitter cells s.ranged mask parity p.master s.mastered p.sender (sender_fitted p start o q w s) not_sender;
          receiver =
              passes.leaves.holds.receiver p.receiver (receiver_fitted p start o q w s)
              ∙ in_each cells (next_on cells p.master) address mask parity (λ (a : Sides). a.receiver p.receiver ≡ receiver_of cells p.receiver) refl (λ near. refl)
              (λ near. replaced_same (receiver_of cells) there _ p.receiver
              (λ e. subst (λ (k : ℕ). (exchanged (transmitter_of cells unit) (receiver_of cells k) address mask parity).receiver ≡ receiver_of cells k) e
              (others m x (transmitter_of cells unit) address mask parity q s.delivering (λ f. theirs (sym f)))));
        }

    pub other_follows : Follows p start q w other (with_cells w after)
    other_follows = record {
      standing = spared p start q w s after spares;
      turning = (
        λ e. theirs (ring_first w.cells s.ranged mask parity p.master s.mastered ∙ e),
        ring_turns w.cells s.ranged mask parity p.master s.mastered,
      );
    }
