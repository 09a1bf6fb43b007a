-- The opening of a message, under document 01's conditions: an undamaged slice call is answered 0, and in it a closed transmitter T is
-- answered 11 by a closed receiver R.
-- Assumes nothing.
use Rattle.std.specs.Prelude.{◌≡◌, ℕ, ◌-◌, eqb, Result, Option}
use Rattle.cells.specs.Fitted.{transmitter_of, receiver_of}
use Rattle.cells.specs.Index.{Indexed}
use Rattle.cells.specs.Layout.{count_in, holder_in, memory_length, transmitter_address}
use Rattle.cells.specs.Search.{first_receiver, first_transmitter}
use Rattle.delivery.specs.Conditions as Delivery
use Rattle.delivery.specs.Ends.{Ends, Message, message_of}
use Rattle.pcl.specs.Link.{slice_call}
use Rattle.pcl.specs.Numbers.{slice_number, slice_value, address_of, b_of}
use Rattle.sending.specs.Choice.{destination_of}
use Rattle.promise.specs.World.{World}
use Rattle.words.specs.declared.answers.Refusal.{Refusal}
use Rattle.bus.specs.declared.slice.Given.{Given}

-- the answer of the slice call that names no damage
abbrev pub undamaged : World → Result (Option Given) Refusal
undamaged w = (slice_call w.cells 0 0).0

-- ---- whose message it is: the units of T and of R, and the one that has MASTER. Any of them may be one.

pub record Parties : Type 0 where
  pub sender : ℕ
  pub receiver : ℕ
  pub master : ℕ

-- "T is the transmitter addressed": it has the address that the slice answers
abbrev pub sender_in : World → ℕ
sender_in w = first_transmitter w.cells (count_in w.cells) (address_of (slice_value (undamaged w)))

-- "The receiver R addressed": it has T's destination
abbrev pub parties_of : World → Parties
parties_of w =
    record {
      sender = sender_in w;
      receiver = first_receiver w.cells (count_in w.cells) (destination_of (transmitter_of w.cells (sender_in w)));
      master = holder_in w.cells - 1;
    }

-- T and R, and their units' memories
abbrev pub ends_of : Parties → World → Ends
ends_of p w =
    record {
      transmitter = transmitter_of w.cells p.sender;
      receiver = receiver_of w.cells p.receiver;
      sending = w.memory p.sender;
      receiving = w.memory p.receiver;
    }

-- the message that is opened: it has T's address, its content is what T's silo and T's load have, and it goes to where R's load stands
abbrev pub message_in : Parties → World → Message
message_in p w =
    message_of (ends_of p w) (transmitter_address w.cells p.sender) (memory_length w.cells p.sender)
    (memory_length w.cells p.receiver) (eqb p.sender p.receiver)

-- "At opening": these parties meet the conditions
abbrev pub AtOpening : Parties → World → Type 0
AtOpening p w =
    Delivery.Conditions (ends_of p w) (memory_length w.cells p.sender) (memory_length w.cells p.receiver) (eqb p.sender p.receiver)

-- ---- w is as it stands before the opening slice

pub record Opening (w : World) : Type 0 where
  -- the index says what the look-through says of who has which address (document 02, No. 8). From a fit on it does (`channels`,
  -- `AddressesIndexed`).
  pub indexed : Indexed w.cells
  -- an undamaged slice call is answered 0, and B is 11
  pub answered : slice_number (undamaged w) ≡ 0
  pub acknowledged : b_of (slice_value (undamaged w)) ≡ 3
  -- Conditions of demand 3, "At opening"
  pub conditions : AtOpening (parties_of w) w
