-- The plain slice, in the words of the slice's definitions.
-- Assumes nothing.
use Rattle.std.specs.Prelude.{false, List, ◌≡◌, refl, ℕ, ltb, Option, Some, None}
use Rattle.std.proofs.Common.{inl, inr, arith, ltb-true, ltb-false}
use Rattle.cells.specs.Fitted.{Fitted}
use Rattle.cells.specs.Layout.{transmitter_place, receiver_place}
use Rattle.laws.specs.Pick.{by, past}
use Rattle.plain_slices.specs.Carried.{Placed, Carried, Tried}
use Rattle.words.specs.declared.codes.Codes.{Codes}
use Rattle.bus.specs.Plain.{HeardInPlace}
use Rattle.bus.specs.Slice.{heard_by}

-- a transmitter's window and a receiver's are apart, of one unit too
pub placed : (cells : List ℕ) (unit other : ℕ) → Fitted cells unit → Fitted cells other → Placed cells (transmitter_place unit) (receiver_place other)
placed cells unit other f g =
    record {
      sender = omega arith;
      receiver = omega arith;
      apart = by (ltb other unit) (λ less. inr (omega (arith, ltb-true other unit less))) (λ more. inl (omega (arith, ltb-false other unit more)));
    }

pub heard_plain : (cells : List ℕ) (unit other from b : ℕ) (after : List ℕ) → Carried cells (transmitter_place unit) (receiver_place other) from b after
    → ◌≡◌ {A = Codes × List ℕ} (record { a = 2; b = b }, after) (heard_by cells unit other from 0 false)
heard_plain cells unit other from b after c = past _ c.own (rw (c.codes, c.sides) refl)

-- with a mask of 0 and the right parity nothing is damaged
pub heard_tried : (cells : List ℕ) (unit other from : ℕ) (b : Option ℕ) (after : List ℕ) → Tried cells (transmitter_place unit) (receiver_place other) from b after
    → HeardInPlace cells unit other from 0 false b after
heard_tried cells unit other from None after same = same
heard_tried cells unit other from (Some b) after c = heard_plain cells unit other from b after c
