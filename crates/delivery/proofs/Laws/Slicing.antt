-- One slice of T's, both ends having moved until 4, takes a message on by one `slice`.
-- Assumes nothing.
use Rattle.std.proofs.Common.{ap, sym, subst, arith, eqb-true}
use Rattle.std.specs.Prelude.{ℕ, ◌+◌, ◌≤◌, ◌<◌, eqb, length}
use Rattle.std.proofs.lemmas.Bool.{eqb-false}
use Rattle.answering.specs.Laws.Listening.{after_word}
use Rattle.laws.specs.Pick.{either}
use Rattle.slices.specs.Laws.InStep.{word_step, in_step_word}
use Rattle.delivery.specs.Laws.Calls.{MovedUntil4, sliced}
use Rattle.delivery.proofs.Laws.Checks.{checks, ends, restarts, stays, succeeds, to}
use Rattle.delivery.specs.Ends.{Ends, Message}
use Rattle.delivery.specs.Laws.Invariant.{Delivering, Receiving}
use Rattle.delivery.specs.Laws.Loading as Loading
use Rattle.delivery.proofs.Laws.ReceivingWords.{receiving_word}
use Rattle.delivery.proofs.Laws.SendingWords.{next_word, sending_word}
use Rattle.delivery.specs.Laws.Slices.{State, slice}
use Rattle.delivery.specs.Laws.Storing as Storing
use Rattle.delivery.proofs.Laws.Waiting.{has_room_lem, not_all_sent, silo_emptied, word_waits}

-- s words were sent, and fewer than 128 of them since the last CRC: the next word is sent and stored
module _ (m : Message) (x : Ends) (s c : ℕ) (d : Delivering m (State.words s c) x) (more : s < length m.content) where
  sends : c < 128 → MovedUntil4 m x → Delivering m (State.words (s + 1) (c + 1)) (sliced m x)
  sends short until =
      let o = d.channel.0 in
      let i = o.in_step in
      let k = d.sending in
      let not_all = not_all_sent m s x.transmitter k i.talking.started more in
      let stopped = Loading.until_4 x.transmitter x.sending m.sending_length until.transmitter in
      let some = word_waits m s x.transmitter k i.talking.started o.is_ending stopped more in
      let stopped_there = Storing.until_4 x.receiver x.receiving m.receiving_length until.receiver in
      let room = has_room_lem x.receiver (silo_emptied m s x.receiver x.receiving d.receiving stopped_there) in
      let word = next_word m s x.transmitter k more some in
      to m x d (State.words (s + 1) (c + 1))
      (word_step x.transmitter x.receiver m.from i o.is_ending o.is_awaiting not_all (rw d.channel.1 short) some room)
      (omega arith)
      (sending_word m s x.transmitter k more some)
      (subst (λ (w : ℕ). Receiving m (s + 1) (after_word x.receiver w) x.receiving) (sym word)
      (receiving_word m s x.receiver x.receiving d.receiving more room)) (
        record {
          in_step = in_step_word x.transmitter x.receiver m.from i;
          lasting = o.lasting;
          is_ending = o.is_ending;
          is_awaiting = o.is_awaiting;
          is_owed = o.is_owed;
          is_good = o.is_good;
        },
        ap (λ (b : ℕ). b + 1) d.channel.1,
      )

-- ---- any of them

pub own_slice : (m : Message) (q : State) (x : Ends) → Delivering m q x → MovedUntil4 m x
    → Delivering m (slice (length m.content) q) (sliced m x)
own_slice m (State.words s c) x d until =
    let n = length m.content in
    let w : (s ≤ n) × (c ≤ 128) × (s < n + c) = d.well in
    either (λ (q : State). Delivering m q (sliced m x)) (eqb s n) (λ e. ends m x s c d (eqb-true s n e))
    (λ e. let more : s < n = omega (arith, eqb-false s n e) in
    either (λ (q : State). Delivering m q (sliced m x)) (eqb c 128) (λ f. checks m x s c d more (eqb-true c 128 f))
    (λ f. sends m x s c d more (omega (arith, eqb-false c 128 f)) until))
own_slice m (State.due s) x d until = restarts m x s d
own_slice m State.last x d until = succeeds m x d until
own_slice m State.done x d until = stays m x d
