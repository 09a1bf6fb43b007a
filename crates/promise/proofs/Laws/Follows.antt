-- What is shown of every event: the message stands as its kind says, and the master's ring turns in a slice and in nothing else.
-- Assumes nothing.
use Rattle.std.specs.Prelude.{List, ◌≡◌, refl, ℕ, ◌<◌, length, get_or, true}
use Rattle.std.proofs.Common.{ap, ap₂, ◌∙◌, arith}
use Rattle.std.proofs.Math.Path.{subst⁻¹}
use Rattle.cells.specs.Ranges.{in_range}
use Rattle.cells.specs.Fitted.{transmitter_of, receiver_of, master_of}
use Rattle.cells.specs.Laws.FrameLaws.{memory_length_kept}
use Rattle.cells.specs.Index.{receiver_with}
use Rattle.cells.proofs.Laws.IndexLaws.{with_kept}
use Rattle.cells.specs.Layout.{count_in, holder_in, memory_length}
use Rattle.delivery.specs.Ends.{Ends}
use Rattle.promise.specs.Kinds.{Kind, own, other, quiet}
use Rattle.delivery.specs.Laws.Invariant.{Delivering}
use Rattle.delivery.specs.Laws.Slices.{State}
use Rattle.frames.specs.Laws.Leaves.{Leaves, stays, still_fitted}
use Rattle.frames.specs.Laws.Serving.{unit_for_kept, unit_for}
use Rattle.frames.specs.Laws.Sides.{Sides}
use Rattle.frames.specs.Laws.Kept.{Kept, holder_most, kept_all, kept_then}
use Rattle.master.specs.Cycle.{cycle_of}
use Rattle.master.specs.Laws.Rotation.{rotated}
use Rattle.receiver.specs.declared.side.Receiver.{Receiver}
use Rattle.transmitter.specs.declared.side.Transmitter.{Transmitter}
use Rattle.promise.specs.Opening.{Parties, ends_of, message_in}
use Rattle.promise.proofs.Laws.Opens.{Opens}
use Rattle.promise.proofs.Laws.Standing.{Standing, onward, ring_of}
use Rattle.promise.specs.World.{World, with_cells}

-- a slice gives the first address of the ring, and turns it
abbrev pub Turns : ℕ → Kind → List ℕ → List ℕ → Type 0
Turns address own ring next = (get_or ring 0 0 ≡ address) × (next ≡ rotated ring)
Turns address other ring next = (get_or ring 0 0 ≡ address → ⊥) × (next ≡ rotated ring)
Turns address quiet ring next = next ≡ ring

pub record Follows (p : Parties) (start : World) (q : State) (w : World) (kind : Kind) (after : World) : Type 0 where
  pub standing : Standing p start (onward (length (message_in p start).content) kind q) after
  pub turning : Turns (message_in p start).from kind (ring_of p w) (ring_of p after)

-- ---- the parties, where the message stands

module _ (p : Parties) (start : World) (o : Opens p start) (q : State) (w : World) (s : Standing p start q w) where
  pub sender_fitted : p.sender < count_in w.cells
  sender_fitted = subst⁻¹ (λ (n : ℕ). p.sender < n) s.kept.count o.sender_fitted

  pub receiver_fitted : p.receiver < count_in w.cells
  receiver_fitted = subst⁻¹ (λ (n : ℕ). p.receiver < n) s.kept.count o.receiver_fitted

  pub sender_near : p.sender < 16
  sender_near = (still_fitted (stays s.ranged) p.sender sender_fitted).number

  pub receiver_near : p.receiver < 16
  receiver_near = (still_fitted (stays s.ranged) p.receiver receiver_fitted).number

  pub master_fitted : p.master < count_in w.cells
  master_fitted = omega (arith, holder_most w.cells s.ranged, s.mastered)

  pub length_same : (k : ℕ) → memory_length w.cells k ≡ memory_length start.cells k
  length_same = memory_length_kept start.cells w.cells s.kept.own

  pub sender_found : unit_for w.cells (message_in p start).from ≡ p.sender
  sender_found = unit_for_kept s.kept (message_in p start).from ∙ o.sends

  pub receiver_found : receiver_with w.cells (message_in p start).to ≡ p.receiver
  receiver_found = with_kept start.cells w.cells s.kept.index s.kept.count 1 (message_in p start).to (omega arith) ∙ o.receives

-- ---- what leaves T and R as they were, of the cells alone

pub record Spares (p : Parties) (cells after : List ℕ) : Type 0 where
  pub ranged : in_range after ≡ true
  pub kept : Kept cells after
  pub holder : holder_in after ≡ holder_in cells
  pub transmitter : transmitter_of after p.sender ≡ transmitter_of cells p.sender
  pub receiver : receiver_of after p.receiver ≡ receiver_of cells p.receiver

abbrev pub sides_are : Ends → Transmitter → Receiver → Ends
sides_are x t r = record { transmitter = t; receiver = r; sending = x.sending; receiving = x.receiving }

module _ (p : Parties) (start : World) (q : State) (w : World) (s : Standing p start q w) where
  pub spared : (after : List ℕ) → Spares p w.cells after → Standing p start q (with_cells w after)
  spared after u =
      record {
        ranged = u.ranged;
        kept = kept_then start.cells w.cells after s.kept u.kept;
        mastered = u.holder ∙ s.mastered;
        delivering =
            subst⁻¹ (Delivering (message_in p start) q) (ap₂ (sides_are (ends_of p w)) u.transmitter u.receiver) s.delivering;
      }

  -- and the ring too
  abbrev pub Undisturbed : List ℕ → Type 0
  Undisturbed after = Spares p w.cells after × (cycle_of (master_of after p.master) ≡ ring_of p w)

  pub nothing_done : Undisturbed w.cells
  nothing_done = (record { ranged = s.ranged; kept = kept_all w.cells; holder = refl; transmitter = refl; receiver = refl }, refl)

  pub undisturbed : (after : List ℕ) → Undisturbed after → Follows p start q w quiet (with_cells w after)
  undisturbed after (u, same) = record { standing = spared after u; turning = same }

-- ---- a quiet event, by the sides and memories that it leaves

abbrev pub ends_on : Parties → Sides → (ℕ → List ℕ) → Ends
ends_on p sides memory =
    record {
      transmitter = sides.transmitter p.sender;
      receiver = sides.receiver p.receiver;
      sending = memory p.sender;
      receiving = memory p.receiver;
    }

module _ (p : Parties) (start : World) (o : Opens p start) (q : State) (w : World) (s : Standing p start q w) where
  pub quiet_follows : {touched : ℕ → Type 0} {after : List ℕ} {sides : Sides} → Leaves touched w.cells after sides → sides.holder ≡ holder_in w.cells
      → cycle_of (sides.master p.master) ≡ ring_of p w → (memory : ℕ → List ℕ) → Delivering (message_in p start) q (ends_on p sides memory)
      → Follows p start q w quiet (record { cells = after; memory = memory })
  quiet_follows {after = after} l holder cycle memory delivering =
      let h = l.holds in
      record {
        standing =
            record {
              ranged = l.ranged;
              kept = kept_then start.cells w.cells after s.kept l.kept;
              mastered = h.holder ∙ holder ∙ s.mastered;
              delivering =
                  subst⁻¹ (Delivering (message_in p start) q)
                  (ap₂ (λ t r. record { transmitter = t; receiver = r; sending = memory p.sender; receiving = memory p.receiver })
                  (h.transmitter p.sender (sender_fitted p start o q w s)) (h.receiver p.receiver (receiver_fitted p start o q w s)))
                  delivering;
            };
        turning = ap cycle_of (h.master p.master (master_fitted p start o q w s)) ∙ cycle;
      }
