-- The two ends of a message with their memories, and what is fixed about the message once it is opened.
-- Assumes nothing.
use Rattle.std.specs.Prelude.{Bool, List, ◌++◌, ℕ, ◌/◌, take, drop}
use Rattle.ends.specs.Ends.{raised}
use Rattle.receiver.specs.declared.side.Receiver.{Receiver}
use Rattle.silos.specs.Silo.{words}
use Rattle.transmitter.specs.declared.side.Transmitter.{Transmitter}
use Rattle.words.specs.Load.{words_left}

-- T and R, the memory that T's moves read and the one that R's moves write. They are one where a unit sends to its own receiver.
pub record Ends : Type 0 where
  pub transmitter : Transmitter
  pub receiver : Receiver
  pub sending : List ℕ
  pub receiving : List ℕ

-- what stays as it is from the opening on
pub record Message : Type 0 where
  -- T's address, and R's
  pub from : ℕ
  pub to : ℕ
  -- the n words
  pub content : List ℕ
  -- those of them that the load had left at the opening, and where they begin in the sending memory
  pub rest : List ℕ
  pub source : ℕ
  -- where the words go in the receiving memory, and that memory at the opening
  pub target : ℕ
  pub before : List ℕ
  -- the words each memory is fitted with
  pub sending_length : ℕ
  pub receiving_length : ℕ
  -- whether it is one memory
  pub shared : Bool
  -- the serial of its opening (document 02, No. 6)
  pub serial : ℕ

-- ---- the message that an opening opens. Conditions of demand 3: "all n words come by one load's moves .. (those in T's silo at the
-- opening, then those the load has left, from TSBA on)"

-- so many words of a memory, from a word on
abbrev pub stretch : List ℕ → ℕ → ℕ → List ℕ
stretch memory start count = take count (drop start memory)

abbrev pub source_of : Ends → ℕ
source_of x = x.transmitter.end.load.address.0 / 2

abbrev pub target_of : Ends → ℕ
target_of x = x.receiver.end.load.address.0 / 2

abbrev pub left_of : Ends → ℕ
left_of x = words_left x.transmitter.end.load

abbrev pub rest_of : Ends → List ℕ
rest_of x = stretch x.sending (source_of x) (left_of x)

abbrev pub content_of : Ends → List ℕ
content_of x = words x.transmitter.end.silo ++ rest_of x

abbrev pub message_of : Ends → ℕ → ℕ → ℕ → Bool → Message
message_of x from sending_length receiving_length shared =
    record {
      from = from;
      to = x.transmitter.modes.destination;
      content = content_of x;
      rest = rest_of x;
      source = source_of x;
      target = target_of x;
      before = x.receiving;
      sending_length = sending_length;
      receiving_length = receiving_length;
      shared = shared;
      serial = raised x.transmitter.end.serial;
    }
