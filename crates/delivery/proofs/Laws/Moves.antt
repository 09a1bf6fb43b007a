-- A memory move of either end, at any time and whatever it answers, leaves a message where it stood.
-- Assumes nothing.
use Rattle.std.specs.Prelude.{true, List, ◌≡◌, ℕ, ◌+◌, ◌-◌, ◌≤◌, ◌<◌, length, set}
use Rattle.std.proofs.Common.{ap, sym, subst, ◌∙◌, arith, get_or-set_other}
use Rattle.laws.specs.Pick.{by, either, pick}
use Rattle.receiver.specs.Moves as R
use Rattle.receiver.specs.Moves.{Moved}
use Rattle.receiver.specs.declared.side.Receiver.{Receiver}
use Rattle.silos.specs.Silo.{oldest}
use Rattle.transmitter.specs.Moves as T
use Rattle.transmitter.specs.declared.side.Transmitter.{Transmitter}
use Rattle.delivery.specs.Laws.Calls.{receiver_moved, transmitter_moved, with_transmitter}
use Rattle.delivery.specs.Laws.ChannelKept.{channel_loaded, channel_stored}
use Rattle.delivery.specs.Ends.{Ends, Message}
use Rattle.delivery.specs.Laws.Invariant.{Channel, Delivering, Holds, Receiving, sent_in}
use Rattle.delivery.specs.Laws.Loading as Loading
use Rattle.delivery.proofs.Laws.ReceivingWords.{going, receiving_stored, stores}
use Rattle.delivery.proofs.Laws.SendingWords.{loads, sending_loaded}
use Rattle.delivery.specs.Laws.Slices.{State, Well}
use Rattle.delivery.specs.Laws.Storing as Storing

-- ---- a move of T's

pub transmitter_moves : (m : Message) (q : State) (x : Ends) → Delivering m q x → Delivering m q (transmitter_moved m x)
transmitter_moves m q x d =
    let t = x.transmitter in
    let k = d.sending in
    by (T.may_move t)
    (λ may. subst (λ (y : Transmitter). Delivering m q (with_transmitter x y))
    (sym (loads m (sent_in (length m.content) q) t k d.laid x.sending d.holds may))
    (record {
      laid = d.laid;
      well = d.well;
      holds = d.holds;
      one = d.one;
      sending = sending_loaded m (sent_in (length m.content) q) t k d.laid x.sending d.holds may;
      receiving = d.receiving;
      channel = channel_loaded m q t x.receiver x.sending d.channel;
    }))
    (λ none. subst (λ (y : Transmitter). Delivering m q (with_transmitter x y)) (sym (Loading.stays t x.sending m.sending_length none)) d)

-- ---- a move of R's

-- a word written outside the sent stretch leaves it
pub holds_outside : (m : Message) (memory : List ℕ) → Holds m memory → (at word : ℕ)
    → ((i : ℕ) → i < length m.rest → m.source + i ≡ at → ⊥) → Holds m (set memory at word)
holds_outside m memory holds at word outside i h = get_or-set_other memory at (m.source + i) word 0 (outside i h) ∙ holds i h

-- R, and the memory it has written
abbrev with_stored : Message → Ends → Receiver → List ℕ → Ends
with_stored m x r memory =
    record { transmitter = x.transmitter; receiver = r; sending = pick m.shared memory x.sending; receiving = memory }

received : (m : Message) (q : State) (x : Ends) → Delivering m q x → (r : Receiver) (memory : List ℕ)
    → Receiving m (sent_in (length m.content) q) r memory → Channel m q x.transmitter r → (m.shared ≡ true → Holds m memory)
    → Delivering m q (with_stored m x r memory)
received m q x d r memory receiving channel holds =
    record {
      laid = d.laid;
      well = d.well;
      holds = either (Holds m) m.shared holds (λ e. d.holds);
      one = λ e. rw e;
      sending = d.sending;
      receiving = receiving;
      channel = channel;
    }

-- no more words were sent than there are
pub sent_most : (n : ℕ) (q : State) → Well n q → sent_in n q ≤ n
sent_most n (State.words s c) w = omega arith
sent_most n (State.due s) w = omega arith
sent_most n State.last w = omega arith
sent_most n State.done w = omega arith

pub receiver_moves : (m : Message) (q : State) (x : Ends) → Delivering m q x → Delivering m q (receiver_moved m x)
receiver_moves m q x d =
    let r = x.receiver in
    let k = d.receiving in
    let n = length m.content in
    let most = sent_most n q d.well in
    by (R.may_move r)
    (λ may. subst (λ (v : Moved × List ℕ). Delivering m q (with_stored m x v.0.side v.1))
    (sym (stores m (sent_in n q) r x.receiving k most d.laid may))
    (received m q x d _ _ (receiving_stored m (sent_in n q) r x.receiving k most d.laid may)
    (channel_stored m q x.transmitter r may d.channel)
    (λ shared. holds_outside m x.receiving (rw (d.one shared) at d.holds) (m.target + k.stored) (oldest r.end.silo)
    (λ i h. d.laid.apart shared i k.stored h (omega (arith, going m (sent_in n q) r x.receiving k most d.laid may))))))
    (λ none. subst (λ (v : Moved × List ℕ). Delivering m q (with_stored m x v.0.side v.1))
    (sym (Storing.stays r x.receiving m.receiving_length none))
    (received m q x d _ _ k d.channel (λ shared. rw (d.one shared) at d.holds)))

-- ---- what a move that is done does to the silo of its end

module _ (m : Message) where
  -- T's puts a word more into it, and R's takes a word out
  pub one_more : (q : State) (x : Ends) → Delivering m q x → T.may_move x.transmitter ≡ true
      → (transmitter_moved m x).transmitter.end.silo.held ≡ x.transmitter.end.silo.held + 1
  one_more q x d may =
      ap (λ (t : Transmitter). t.end.silo.held) (loads m (sent_in (length m.content) q) x.transmitter d.sending d.laid x.sending d.holds may)
      ∙ rw (Loading.loaded_and_room x.transmitter may).1

  pub one_fewer : (q : State) (x : Ends) → Delivering m q x → R.may_move x.receiver ≡ true
      → (receiver_moved m x).receiver.end.silo.held ≡ x.receiver.end.silo.held - 1
  one_fewer q x d may =
      let n = length m.content in
      ap (λ (v : Moved × List ℕ). v.0.side.end.silo.held)
      (stores m (sent_in n q) x.receiver x.receiving d.receiving (sent_most n q d.well) d.laid may)
      ∙ rw (Storing.some_word x.receiver may)
