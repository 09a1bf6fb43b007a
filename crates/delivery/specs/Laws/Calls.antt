-- What a call does to the ends of a message: a memory move of either, and a slice of T's that names no damage.
-- Assumes nothing.
use Rattle.std.specs.Prelude.{false, List, ◌≡◌, ℕ, Err}
use Rattle.laws.specs.Pick.{pick}
use Rattle.receiver.specs.Moves as R
use Rattle.slices.specs.Slice.{exchanged}
use Rattle.slices.specs.declared.Pair.{Pair}
use Rattle.transmitter.specs.Moves as T
use Rattle.words.specs.declared.answers.Refusal.{Refusal}
use Rattle.transmitter.specs.declared.side.Transmitter.{Transmitter}
use Rattle.delivery.specs.Ends.{Ends, Message}

-- the ends with T, or the sending memory, changed
abbrev pub with_transmitter : Ends → Transmitter → Ends
with_transmitter x t = record { transmitter = t; receiver = x.receiver; sending = x.sending; receiving = x.receiving }

abbrev pub with_sending : Ends → List ℕ → Ends
with_sending x memory = record { transmitter = x.transmitter; receiver = x.receiver; sending = memory; receiving = x.receiving }

abbrev pub transmitter_moved : Message → Ends → Ends
transmitter_moved m x = with_transmitter x (T.moved x.transmitter x.sending m.sending_length).side

-- where the memory is one, T's moves read what R's moves have written
abbrev pub receiver_moved : Message → Ends → Ends
receiver_moved m x =
    record {
      transmitter = x.transmitter;
      receiver = (R.moved x.receiver x.receiving m.receiving_length).0.side;
      sending = pick m.shared (R.moved x.receiver x.receiving m.receiving_length).1 x.sending;
      receiving = (R.moved x.receiver x.receiving m.receiving_length).1;
    }

abbrev pub with : Ends → Pair → Ends
with x p = record { transmitter = p.transmitter; receiver = p.receiver; sending = x.sending; receiving = x.receiving }

abbrev pub sliced : Message → Ends → Ends
sliced m x = with x (exchanged x.transmitter x.receiver m.from 0 false)

-- "before each of T's slices both ends have moved until 4": one more move of either answers 4
pub record MovedUntil4 (m : Message) (x : Ends) : Type 0 where
  pub transmitter : (T.moved x.transmitter x.sending m.sending_length).answer ≡ Err Refusal.Nothing
  pub receiver : (R.moved x.receiver x.receiving m.receiving_length).0.answer ≡ Err Refusal.Nothing
