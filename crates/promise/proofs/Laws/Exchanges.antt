-- A slice in which T's unit and R's are those addressed: the world after it has the two ends that the exchange leaves.
-- Assumes nothing.
use Rattle.std.specs.Prelude.{Bool, ◌≡◌, ℕ, ◌+◌, ◌<◌}
use Rattle.std.proofs.Common.{ap₂, ◌∙◌}
use Rattle.std.proofs.Math.Path.{subst⁻¹}
use Rattle.bus.specs.Slice.{slice_passed}
use Rattle.cells.specs.Fitted.{transmitter_of, receiver_of}
use Rattle.cells.specs.Layout.{count_in, holder_in}
use Rattle.delivery.specs.Laws.Calls.{with}
use Rattle.delivery.specs.Laws.Invariant.{Delivering}
use Rattle.delivery.specs.Laws.Slices.{State}
use Rattle.frames.specs.Laws.Serving.{heard_on}
use Rattle.frames.specs.Laws.Sides.{replaced_here}
use Rattle.frames.specs.Laws.Slices.{SlicePasses, next_address, next_on}
use Rattle.frames.specs.Laws.Kept.{Kept, kept_then}
use Rattle.slices.specs.Slice.{exchanged}
use Rattle.promise.proofs.Laws.Follows.{sides_are}
use Rattle.promise.specs.Opening.{Parties, ends_of, message_in}
use Rattle.promise.proofs.Laws.Standing.{Standing}
use Rattle.promise.specs.World.{World, with_cells}

module _ (p : Parties) (start w : World) (kept : Kept start.cells w.cells) (mastered : holder_in w.cells ≡ p.master + 1)
    (sender : p.sender < count_in w.cells) (receiver : p.receiver < count_in w.cells) (mask : ℕ) (parity : Bool) where
  abbrev address : ℕ
  address = next_address w.cells p.master

  pub exchange_stands : (q : State)
      → SlicePasses w.cells mask parity p.master (heard_on (next_on w.cells p.master) p.sender p.receiver address mask parity)
      → Delivering (message_in p start) q (with (ends_of p w) (exchanged (transmitter_of w.cells p.sender) (receiver_of w.cells p.receiver) address mask parity))
      → Standing p start q (with_cells w (slice_passed w.cells mask parity).1)
  exchange_stands q heard delivering =
      let h = heard.leaves.holds in
      let t = h.transmitter p.sender sender ∙ replaced_here (transmitter_of w.cells) p.sender _ in
      let r = h.receiver p.receiver receiver ∙ replaced_here (receiver_of w.cells) p.receiver _ in
      record {
        ranged = heard.leaves.ranged;
        kept = kept_then start.cells w.cells _ kept heard.leaves.kept;
        mastered = h.holder ∙ mastered;
        delivering = subst⁻¹ (Delivering (message_in p start) q) (ap₂ (sides_are (ends_of p w)) t r) delivering;
      }
