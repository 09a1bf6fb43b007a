-- The opening slice: the message stands as opened, and T's address is in the ring.
-- Assumes nothing.
use Rattle.std.specs.Prelude.{true, false, List, [], ◌∷◌, ◌≡◌, refl, ℕ, ◌<◌, length, get_or, Result, Ok, Option}
use Rattle.std.proofs.Common.{ap, sym, ◌∙◌, arith, eqb-true}
use Rattle.std.proofs.Math.Path.{subst⁻¹}
use Rattle.frames.specs.Laws.Leaves.{stays, still_fitted, transmitter_within, receiver_within}
use Rattle.bus.specs.Slice.{slice_passed}
use Rattle.cells.specs.Fitted.{transmitter_of, receiver_of}
use Rattle.delivery.specs.Laws.Calls.{with}
use Rattle.delivery.specs.Ends.{Message}
use Rattle.delivery.specs.Laws.Invariant.{Delivering}
use Rattle.delivery.proofs.Laws.Opening as Delivery
use Rattle.delivery.specs.Laws.Slices as Slices
use Rattle.frames.specs.Laws.Serving.{heard_on, unit_for}
use Rattle.frames.specs.Laws.Slices.{SlicePasses, next_address, next_on, slice_heard}
use Rattle.frames.specs.Laws.Kept.{kept_all}
use Rattle.master.specs.Laws.Rotation.{Among, rotated}
use Rattle.pcl.specs.Link.{slice_call}
use Rattle.slices.specs.Slice.{exchanged}
use Rattle.promise.proofs.Laws.Exchanges.{exchange_stands}
use Rattle.promise.proofs.Laws.SliceCalls.{ring_first, ring_turns, slice_call_lem, slot_in}
use Rattle.promise.specs.Opening.{Parties, ends_of, message_in}
use Rattle.promise.proofs.Laws.Opens.{Opens}
use Rattle.promise.proofs.Laws.Standing.{Standing, ring_of}
use Rattle.promise.specs.World.{World, slice, step, with_cells}
use Rattle.words.specs.declared.answers.Refusal.{Refusal}
use Rattle.bus.specs.declared.slice.Given.{Given}

module _ (p : Parties) (start : World) (o : Opens p start) where
  abbrev m : Message
  m = message_in p start

  abbrev cells : List ℕ
  cells = start.cells

  abbrev address : ℕ
  address = next_address cells p.master

  call : slice_call cells 0 0 ≡ (Ok (slot_in cells 0 false p.master), (slice_passed cells 0 false).1)
  call = slice_call_lem cells o.ranged 0 0 p.master o.mastered refl

  heard : SlicePasses cells 0 false p.master (heard_on (next_on cells p.master) p.sender p.receiver address 0 false)
  heard =
      slice_heard cells o.ranged 0 false p.master o.mastered p.sender (ap (unit_for cells) o.given ∙ o.sends)
      (still_fitted (stays o.ranged) p.sender o.sender_fitted).number p.receiver (rw o.conditions.transmitter_closed o.receives)
      (still_fitted (stays o.ranged) p.receiver o.receiver_fitted).number

  -- a unit that sends to itself has one memory
  one_memory : m.shared ≡ true → start.memory p.sender ≡ start.memory p.receiver
  one_memory e = ap start.memory (eqb-true p.sender p.receiver e)

  pub opened_stands : Standing p start Slices.opened (step (slice 0 0) start)
  opened_stands =
      let x = ends_of p start in
      let t = transmitter_of cells p.sender in
      let r = receiver_of cells p.receiver in
      let d =
      Delivery.opened x m.from m.sending_length m.receiving_length m.shared o.conditions o.answered one_memory
      (transmitter_within (stays o.ranged) p.sender o.sender_fitted) (receiver_within (stays o.ranged) p.receiver o.receiver_fitted) in
      subst⁻¹ (λ (c : Result (Option Given) Refusal × List ℕ). Standing p start Slices.opened (with_cells start c.1)) call
      (exchange_stands p start start (kept_all cells) o.mastered o.sender_fitted o.receiver_fitted 0 false Slices.opened heard
      (subst⁻¹ (λ (a : ℕ). Delivering m Slices.opened (with x (exchanged t r a 0 false))) o.given d))

  -- ---- the ring: it begins with T's address, and turns

  pub in_ring : Among m.from (ring_of p start)
  in_ring =
      let first : get_or (ring_of p start) 0 0 ≡ m.from = sym (ring_first cells o.ranged 0 false p.master o.mastered) ∙ o.given in
      (0, some (ring_of p start) first, first)
    where
      some : (ring : List ℕ) → get_or ring 0 0 ≡ m.from → 0 < length ring
      some [] e = absurd (omega arith)
      some (a ∷ ring) e = omega arith

  pub opened_turns : ring_of p (step (slice 0 0) start) ≡ rotated (ring_of p start)
  opened_turns =
      subst⁻¹ (λ (c : Result (Option Given) Refusal × List ℕ). ring_of p (with_cells start c.1) ≡ rotated (ring_of p start)) call
      (ring_turns cells o.ranged 0 false p.master o.mastered)
