-- What the invariant of a message says of its outcome.
-- Assumes nothing.
use Rattle.std.specs.Prelude.{Bool, List, ◌++◌, ◌≡◌, refl, ℕ, ◌+◌, ◌-◌, ◌*◌, length, take, drop}
use Rattle.std.proofs.Common.{ap, ◌∙◌, arith, eqb-true}
use Rattle.std.proofs.Math.Seq.{paste, take-length}
use Rattle.delivery.specs.Ends.{Ends, Message}
use Rattle.delivery.specs.Laws.Invariant.{Delivering, Open}
use Rattle.delivery.specs.Outcome.{Delivered, Underway}
use Rattle.delivery.proofs.Laws.ReceivingWords.{to_store}
use Rattle.delivery.specs.Laws.Slices.{State}

module _ (m : Message) (x : Ends) where
  open_underway : (q : State) → Delivering m q x → {ending awaiting owed : Bool}
      → Open m ending awaiting owed x.transmitter x.receiver → Underway x
  open_underway q d o =
      record {
        opened = o.in_step.talking.opened;
        opened_there = o.in_step.listening.opened;
        no_success = o.lasting.no_success;
        no_success_there = o.lasting.no_success_there;
        no_reject = d.sending.no_reject;
        no_reject_there = d.receiving.no_reject;
        no_error = d.sending.no_error;
        no_error_there = d.receiving.no_error;
      }

  pub underway : (q : State) → Delivering m q x → (q ≡ State.done → ⊥) → Underway x
  underway (State.words s c) d more = open_underway (State.words s c) d d.channel.0
  underway (State.due s) d more = open_underway (State.due s) d d.channel.0
  underway State.last d more = open_underway State.last d d.channel
  underway State.done d more = absurd (more refl)

  pub delivered : Delivering m State.done x → Delivered m x
  delivered d =
      let c = d.channel in
      let k = d.receiving in
      let n = length m.content in
      let none = eqb-true x.receiver.end.silo.held 0 c.silo_empty in
      let all : k.stored ≡ n = omega (arith, none, to_store m n x.receiver x.receiving k (omega arith)) in
      record {
        closed = c.shut;
        closed_there = c.shut_there;
        success = c.success;
        success_there = c.success_there;
        no_reject = d.sending.no_reject;
        no_reject_there = k.no_reject;
        no_error = d.sending.no_error;
        no_error_there = k.no_error;
        inside = omega (arith, d.laid.stored.inside (n - 1) (omega (arith, d.laid.some)), d.laid.lent, d.laid.some);
        memory =
            k.in_memory
            ∙ ap (paste m.before m.target m.content) all
            ∙ ap (λ (l : List ℕ). take m.target m.before ++ l ++ drop (m.target + n) m.before) (take-length m.content);
        place = k.place ∙ ap (λ (i : ℕ). (m.target + i) * 2) all;
        serial = c.serial;
        serial_there = c.serial_there;
      }
