-- How the ends of a message and their memories stand from the opening slice on, at each `State` of it.
-- Assumes nothing.
use Rattle.std.specs.Prelude.{Bool, true, false, List, ◌++◌, ◌≡◌, ℕ, ◌+◌, ◌*◌, ◌≤◌, ◌<◌, length, get_or, drop}
use Rattle.std.proofs.Math.Seq.{paste, slice as part}
use Rattle.receiver.specs.Side as R
use Rattle.receiver.specs.declared.side.Receiver.{Receiver}
use Rattle.silos.specs.Silo.{Sized, is_empty, words as held}
use Rattle.silos.specs.declared.Silo.{Silo}
use Rattle.slices.specs.Laws.InStep.{InStep}
use Rattle.transmitter.specs.Side as T
use Rattle.transmitter.specs.declared.side.Modes.{Modes}
use Rattle.transmitter.specs.declared.side.Transmitter.{Transmitter}
use Rattle.words.specs.Load.{Bounded, words_left}
use Rattle.words.specs.declared.load.Load.{Load}
use Rattle.delivery.specs.Conditions.{Apart, Stretch}
use Rattle.delivery.specs.Ends.{Ends, Message}
use Rattle.delivery.specs.Laws.Slices.{State, Well}

-- ---- what the conditions fixed

pub record Laid (m : Message) : Type 0 where
  pub some : 1 ≤ length m.content
  pub sent : Stretch m.source (length m.rest) m.sending_length
  pub stored : Stretch m.target (length m.content) m.receiving_length
  pub apart : m.shared ≡ true → Apart m.source (length m.rest) m.target (length m.content)
  pub lent : m.receiving_length ≤ length m.before

-- ---- the words: s of them were sent

-- "the sent stretch not written meanwhile": the sending memory has the words of the load. The rest of it may change.
abbrev pub Holds : Message → List ℕ → Type 0
Holds m memory = (i : ℕ) → i < length m.rest → get_or memory (m.source + i) 0 ≡ get_or m.rest i 0

-- a silo, and after it what the load has left, are the words to come
pub record SendingFrom (m : Message) (s : ℕ) (silo : Silo) (load : Load) (modes : Modes) (error reject : Bool) : Type 0 where
  pub sized : Sized 64 silo
  pub bounded : Bounded load
  -- so many words the load has moved since the opening
  pub gone : ℕ
  pub left : words_left load + gone ≡ length m.rest
  pub place : load.address.0 ≡ (m.source + gone) * 2
  pub to_come : held silo ++ drop gone m.rest ≡ drop s m.content
  pub requests : 1 ≤ words_left load → modes.memory_requests ≡ true
  pub increments : modes.inhibit_increment ≡ false
  pub read_silo : modes.read_silo ≡ false
  pub destination : modes.destination ≡ m.to
  pub no_error : error ≡ false
  pub no_reject : reject ≡ false

-- T's: it stays with whatever changes at T besides these
abbrev pub Sending : Message → ℕ → Transmitter → Type 0
Sending m s t = SendingFrom m s t.end.silo t.end.load t.modes (T.has_error t) t.outcome.software_reject

-- the receiving memory has the first of the words sent, and is otherwise as at the opening; the silo has the others
pub record ReceivingIn (m : Message) (s : ℕ) (memory : List ℕ) (silo : Silo) (load : Load) (requesting inhibiting error reject : Bool) : Type 0 where
  pub sized : Sized 64 silo
  pub bounded : Bounded load
  -- so many words are in the memory
  pub stored : ℕ
  pub sent : stored ≤ s
  pub enough : length m.content ≤ words_left load + stored
  pub place : load.address.0 ≡ (m.target + stored) * 2
  pub in_silo : held silo ≡ part stored s m.content
  pub in_memory : memory ≡ paste m.before m.target m.content stored
  pub requests : requesting ≡ true
  pub increments : inhibiting ≡ false
  pub no_error : error ≡ false
  pub no_reject : reject ≡ false

-- R's: it stays with whatever changes at R besides these
abbrev pub Receiving : Message → ℕ → Receiver → List ℕ → Type 0
Receiving m s r memory =
    ReceivingIn m s memory r.end.silo r.end.load r.modes.memory_requests r.modes.inhibit_increment (R.has_error r) r.outcome.reject_complete

-- ---- the channel

-- what no slice of an open channel changes: where it leads, its serial, and that nothing has ended it
pub record Lasting (m : Message) (destination number number_there : ℕ) (truncated success bus_busy success_there : Bool) : Type 0 where
  pub latched : destination ≡ m.to
  pub serial : number ≡ m.serial
  pub serial_there : number_there ≡ m.serial
  pub not_truncated : truncated ≡ false
  pub no_success : success ≡ false
  -- TBS BSY, which the opening clears
  pub not_refused : bus_busy ≡ false
  pub no_success_there : success_there ≡ false

-- open and in step: whether T is ending, whether the verdict on a due CRC is awaited, whether R owes a verdict, which is then good
pub record Open (m : Message) (ending awaiting owed : Bool) (t : Transmitter) (r : Receiver) : Type 0 where
  pub in_step : InStep t r m.from
  pub lasting : Lasting m t.channel.destination t.end.serial r.end.serial r.channel.truncated t.outcome.success t.outcome.bus_busy r.outcome.success
  pub is_ending : t.channel.ending ≡ ending
  pub is_awaiting : t.channel.awaiting ≡ awaiting
  pub is_owed : r.channel.owed ≡ owed
  pub is_good : r.channel.good ≡ owed

-- closed with success, and neither end begins a message of its own
pub record Closed (m : Message) (t : Transmitter) (r : Receiver) : Type 0 where
  pub shut : t.end.opened ≡ false
  pub shut_there : r.end.opened ≡ false
  pub success : t.outcome.success ≡ true
  pub success_there : r.outcome.success ≡ true
  pub not_sending : t.commands.send_word ≡ false
  pub not_awaiting : r.commands.receive_word ≡ false
  pub silo_empty : is_empty r.end.silo ≡ true
  pub serial : t.end.serial ≡ m.serial
  pub serial_there : r.end.serial ≡ m.serial

abbrev pub Channel : Message → State → Transmitter → Receiver → Type 0
Channel m (State.words s c) t r = Open m false false false t r × (t.end.block ≡ c)
Channel m (State.due s) t r = Open m false true true t r × (t.end.block ≡ 128)
Channel m State.last t r = Open m true false true t r
Channel m State.done t r = Closed m t r

-- ---- all of it

-- the words accepted, of n
abbrev pub sent_in : ℕ → State → ℕ
sent_in n (State.words s c) = s
sent_in n (State.due s) = s
sent_in n State.last = n
sent_in n State.done = n

pub record Delivering (m : Message) (q : State) (x : Ends) : Type 0 where
  pub laid : Laid m
  pub well : Well (length m.content) q
  pub holds : Holds m x.sending
  pub one : m.shared ≡ true → x.sending ≡ x.receiving
  pub sending : Sending m (sent_in (length m.content) q) x.transmitter
  pub receiving : Receiving m (sent_in (length m.content) q) x.receiver x.receiving
  pub channel : Channel m q x.transmitter x.receiver
