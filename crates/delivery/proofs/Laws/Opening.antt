-- The opening slice under document 01's conditions: from then on the message is being delivered.
-- Assumes nothing.
use Rattle.std.specs.Prelude.{Bool, true, false, not, ◌&&◌, ◌≡◌, refl, ℕ, ◌<◌, length}
use Rattle.std.proofs.Common.{ap, sym, subst, arith}
use Rattle.std.proofs.lemmas.Bool.{not-true}
use Rattle.answering.specs.Events.{opening as listening_to}
use Rattle.answering.specs.Laws.Listening as R
use Rattle.ends.specs.Ends.{raised}
use Rattle.laws.specs.Pick.{pick}
use Rattle.receiver.specs.Side as RS
use Rattle.sending.specs.Choice.{chosen, may_open}
use Rattle.sending.specs.Laws.Talking as T
use Rattle.sending.specs.declared.choice.Choice.{Choice}
use Rattle.silos.specs.Silo.{is_empty}
use Rattle.slices.specs.Laws.InStep.{in_step_opened, opening_step}
use Rattle.slices.specs.Slice.{exchanged, exchanged_as}
use Rattle.slices.specs.declared.Pair.{Pair}
use Rattle.transmitter.specs.Side as TS
use Rattle.delivery.specs.Laws.Calls.{sliced, with}
use Rattle.delivery.specs.Conditions.{Conditions}
use Rattle.delivery.specs.Ends.{Ends, Message, content_of, message_of}
use Rattle.delivery.specs.Laws.Invariant.{Delivering, Receiving}
use Rattle.delivery.specs.Laws.Loading.{both}
use Rattle.delivery.proofs.Laws.ReceivingWords.{receiving_word}
use Rattle.delivery.proofs.Laws.SendingWords.{next_word, sending_word}
use Rattle.delivery.specs.Laws.Slices as Slices
use Rattle.delivery.specs.Laws.Start as Start
use Rattle.delivery.proofs.Laws.Waiting.{has_room_lem}

module _ (x : Ends) (from sending_length receiving_length : ℕ) (shared : Bool) (c : Conditions x sending_length receiving_length shared) where
  abbrev message : Message
  message = message_of x from sending_length receiving_length shared

  answers_11 : (may : Bool)
      → (exchanged_as x.transmitter (pick may Choice.Opening Choice.Idle) x.receiver from 0 false).codes.b ≡ 3 → may ≡ true
  answers_11 true e = refl
  answers_11 false e = absurd (omega arith)

  module _ (opens : (exchanged x.transmitter x.receiver from 0 false).codes.b ≡ 3) where
    -- who is answered 11 had a word and a destination
    acting : may_open x.transmitter ≡ true
    acting =
        let e : chosen x.transmitter ≡ pick (may_open x.transmitter) Choice.Opening Choice.Idle = rw c.transmitter_closed in
        answers_11 (may_open x.transmitter)
        (subst (λ (choice : Choice). (exchanged_as x.transmitter choice x.receiver from 0 false).codes.b ≡ 3) e opens)

    sender : T.Ready x.transmitter
    sender =
        record { closed = c.transmitter_closed; started = c.start_transmission; acting = acting; no_error = c.transmitter_no_error }

    ready : R.Ready x.receiver
    ready =
        record {
          closed = c.receiver_closed;
          no_error = c.receiver_no_error;
          accepting = c.not_rejecting;
          receiving = c.receive_data;
          awaiting = c.receive_word;
          room = has_room_lem x.receiver c.silo_empty;
        }

    some_word : is_empty x.transmitter.end.silo ≡ false
    some_word = with_word x.transmitter.commands.send_word (is_empty x.transmitter.end.silo) _ _ acting
      where
        with_word : (a b c d : Bool) → (a && not b && c && d) ≡ true → b ≡ false
        with_word a b c d e = not-true b (both a (not b) (both (a && not b) c (both (a && not b && c) d e).0).0).1

    pub opening_codes : (exchanged x.transmitter x.receiver from 0 false).codes ≡ record { a = 2; b = 3 }
    opening_codes = ap (λ (p : Pair). p.codes) (opening_step x.transmitter x.receiver from sender ready)

    pub opened : (shared ≡ true → x.sending ≡ x.receiving) → TS.Within x.transmitter → RS.Within x.receiver
        → Delivering message Slices.opened (sliced message x)
    opened one within_t within_r =
        let k = Start.sending x from sending_length receiving_length shared c within_t in
        let more : 0 < length (content_of x) = c.some in
        let word = next_word message 0 x.transmitter k more some_word in
        subst (λ (p : Pair). Delivering message Slices.opened (with x p)) (sym (opening_step x.transmitter x.receiver from sender ready))
        (record {
          laid = Start.laid x from sending_length receiving_length shared c;
          well = omega (arith, c.some);
          holds = Start.holds x from sending_length receiving_length shared c;
          one = one;
          sending = sending_word message 0 x.transmitter k more some_word;
          receiving =
              subst (λ (w : ℕ). Receiving message 1 (R.after_word (listening_to x.receiver from (raised x.transmitter.end.serial)) w) x.receiving) (sym word)
              (receiving_word message 0 (listening_to x.receiver from (raised x.transmitter.end.serial)) x.receiving
              (Start.receiving x from sending_length receiving_length shared c within_r) more (has_room_lem x.receiver c.silo_empty));
          channel = (
            record {
              in_step = in_step_opened x.transmitter x.receiver from sender ready;
              lasting =
                  record { latched = refl; serial = refl; serial_there = refl; not_truncated = refl; no_success = c.transmitter_no_success; not_refused = refl; no_success_there = c.receiver_no_success };
              is_ending = refl;
              is_awaiting = refl;
              is_owed = refl;
              is_good = refl;
            },
            refl,
          );
        })
