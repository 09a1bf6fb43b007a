-- What leaves a message where it stands: the host's writes outside the sent stretch, and the slices of other transmitters.
-- Assumes nothing.
use Rattle.std.specs.Prelude.{Bool, true, false, List, ◌≡◌, refl, ℕ}
use Rattle.std.proofs.Math.Bool.{and-false}
use Rattle.std.proofs.Common.{ap, ne_eqb}
use Rattle.answering.specs.Choice.{may_open, open_with_another}
use Rattle.answering.proofs.Laws.Keeps.{refused_untouched}
use Rattle.laws.specs.Pick.{either}
use Rattle.receiver.specs.declared.side.Receiver.{Receiver}
use Rattle.sending.specs.Choice.{acts_on, chosen, destination_of, sent_by}
use Rattle.slices.specs.Laws.Keeps.{another}
use Rattle.slices.specs.Slice.{exchanged}
use Rattle.slices.specs.declared.Pair.{Pair}
use Rattle.transmitter.specs.declared.side.Transmitter.{Transmitter}
use Rattle.words.specs.Lines.{damaged}
use Rattle.words.specs.declared.lines.Sent.{Sent}
use Rattle.delivery.specs.Laws.Calls.{with_sending}
use Rattle.delivery.specs.Ends.{Ends, Message}
use Rattle.delivery.specs.Laws.Invariant.{Closed, Delivering, Holds, Open}
use Rattle.delivery.specs.Laws.Slices.{State}

-- ---- T's slices go to R

pub addressed : (m : Message) (q : State) (x : Ends) → Delivering m q x → destination_of x.transmitter ≡ m.to
addressed m (State.words s c) x d = rw d.channel.0.in_step.talking.opened d.channel.0.lasting.latched
addressed m (State.due s) x d = rw d.channel.0.in_step.talking.opened d.channel.0.lasting.latched
addressed m State.last x d = rw d.channel.in_step.talking.opened d.channel.lasting.latched
addressed m State.done x d = rw d.channel.shut d.sending.destination

-- ---- "but for the host's memory writes": any change of the sending memory that leaves the sent stretch, where R's is another

pub host_writes : (m : Message) (q : State) (x : Ends) → Delivering m q x → (memory : List ℕ) → Holds m memory
    → (m.shared ≡ true → memory ≡ x.receiving) → Delivering m q (with_sending x memory)
host_writes m q x d memory holds one =
    record {
      laid = d.laid;
      well = d.well;
      holds = holds;
      one = one;
      sending = d.sending;
      receiving = d.receiving;
      channel = d.channel;
    }

-- ---- the slices of other transmitters. They leave T alone, as a slice has one transmitter; and R, as it is open with T or is closed with
-- RCV WD clear.

open_another : {m : Message} {ending awaiting owed : Bool} {t : Transmitter} {r : Receiver} → Open m ending awaiting owed t r → (other : ℕ)
    → (m.from ≡ other → ⊥) → open_with_another r other ≡ true
open_another {m} o other differs =
    rw (o.in_step.listening.opened, o.in_step.listening.sender, ne_eqb m.from other differs)

refuses : {m : Message} (t : Transmitter) (r : Receiver) → Closed m t r → (sent : Sent) → may_open r sent ≡ false
refuses t r c sent = rw (c.not_awaiting, and-false sent.opening)

module _ (m : Message) (x : Ends) (t : Transmitter) (from mask : ℕ) (parity : Bool) where
  -- after success R is left by every slice
  pub closed_others : Delivering m State.done x → (exchanged t x.receiver from mask parity).receiver ≡ x.receiver
  closed_others d =
      let sent = damaged (sent_by t (chosen t)) mask parity in
      either (λ (p : Pair). p.receiver ≡ x.receiver) (acts_on (chosen t))
      (λ e. ap (λ a. a.side) (refused_untouched x.receiver from sent d.channel.shut_there (refuses x.transmitter x.receiver d.channel sent)))
      (λ e. refl)

  pub others : (q : State) → Delivering m q x → (m.from ≡ from → ⊥) → (exchanged t x.receiver from mask parity).receiver ≡ x.receiver
  others (State.words s c) d differs = another t x.receiver from mask parity (open_another d.channel.0 from differs)
  others (State.due s) d differs = another t x.receiver from mask parity (open_another d.channel.0 from differs)
  others State.last d differs = another t x.receiver from mask parity (open_another d.channel from differs)
  others State.done d differs = closed_others d
