-- What the conditions of demand 3 give before the opening slice: no word was sent yet, and all of them are to come.
-- Assumes nothing.
use Rattle.std.specs.Prelude.{Bool, List, ◌≡◌, refl, ℕ, zero, suc, ◌≤◌, ◌<◌, length, drop}
use Rattle.std.proofs.Common.{sym, ◌∙◌, arith, lit≤, length-take, length-drop, get_or-drop, get_or-take}
use Rattle.std.proofs.Math.Seq.{paste-zero}
use Rattle.receiver.specs.Side as R
use Rattle.silos.specs.Laws.Laws.{words_empty}
use Rattle.transmitter.specs.Side as T
use Rattle.delivery.specs.Conditions.{Conditions, Stretch}
use Rattle.delivery.specs.Ends.{Ends, Message, left_of, message_of, rest_of, source_of, stretch}
use Rattle.delivery.specs.Laws.Invariant.{Holds, Laid, Receiving, Sending}

-- a stretch inside a memory has its length
stretch_length : (memory : List ℕ) (start count fitted : ℕ) → Stretch start count fitted → fitted ≤ length memory
    → length (stretch memory start count) ≡ count
stretch_length memory start zero fitted s lent = refl
stretch_length memory start (suc k) fitted s lent = simp (length-take, length-drop) (omega (arith, s.inside k (omega arith)))

module _ (x : Ends) (from sending_length receiving_length : ℕ) (shared : Bool) (c : Conditions x sending_length receiving_length shared) where
  abbrev message : Message
  message = message_of x from sending_length receiving_length shared

  rest_length : length (rest_of x) ≡ left_of x
  rest_length = stretch_length x.sending (source_of x) (left_of x) sending_length c.sent_stretch c.sending_lent

  pub laid : Laid message
  laid =
      record {
        some = c.some;
        sent = rw rest_length c.sent_stretch;
        stored = c.stored_stretch;
        apart = rw rest_length c.stretches_apart;
        lent = c.receiving_lent;
      }

  pub holds : Holds message x.sending
  holds i h =
      let inside : i < left_of x = omega (arith, rest_length) in
      sym (get_or-take (left_of x) (drop (source_of x) x.sending) i 0 inside ∙ get_or-drop (source_of x) x.sending i 0)

  -- ---- no word was sent yet

  pub sending : T.Within x.transmitter → Sending message 0 x.transmitter
  sending within =
      record {
        sized = within.end.silo;
        bounded = within.end.load;
        gone = 0;
        left = omega (arith, rest_length);
        place = omega (arith, within.end.load.even_address);
        to_come = refl;
        requests = c.transmitter_requests;
        increments = c.transmitter_increments;
        read_silo = c.read_silo;
        destination = refl;
        no_error = c.transmitter_no_error;
        no_reject = c.no_software_reject;
      }

  pub receiving : R.Within x.receiver → Receiving message 0 x.receiver x.receiving
  receiving within =
      record {
        sized = within.end.silo;
        bounded = within.end.load;
        stored = 0;
        sent = omega arith;
        enough = omega (arith, c.count_good);
        place = omega (arith, within.end.load.even_address);
        in_silo = words_empty 64 (lit≤ tt) x.receiver.end.silo within.end.silo c.silo_empty;
        in_memory = paste-zero x.receiving message.target message.content;
        requests = c.receiver_requests;
        increments = c.receiver_increments;
        no_error = c.receiver_no_error;
        no_reject = c.no_reject_complete;
      }
