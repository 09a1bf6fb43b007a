-- The promise over runs of calls, since document 02, No. 1; since No. 6 of the serials, and since No. 8 of the index.
-- Assumes nothing.
use Rattle.std.specs.Prelude.{true, false, List, [], ◌∷◌, ◌++◌, ◌≡◌, ℕ, ◌%◌, ◌≤◌, ◌<◌, Result, Option}
use Rattle.std.specs.Int.Bits.{bit_xor}
use Rattle.cells.specs.Fitted.{transmitter_of, receiver_of}
use Rattle.cells.specs.Index.{Indexed}
use Rattle.cells.specs.Layout.{count_in, receiver_address, transmitter_address}
use Rattle.laws.specs.Pick.{pick}
use Rattle.pcl.specs.Link.{slice_call}
use Rattle.pcl.specs.Numbers.{a_of, address_of, b_of, slice_number, slice_value}
use Rattle.promise.specs.Kinds.{kind_of, own}
use Rattle.promise.specs.Reports.{Serial}
use Rattle.promise.specs.World.{World, Event, fit, write, write_byte, read, slice, move, period, reset, level, serial, host_write, Handed, AllHanded, step}
use Rattle.receiver.specs.declared.side.Receiver.{Receiver}
use Rattle.sending.specs.Choice.{chosen, code_of, sent_by}
use Rattle.silos.specs.Silo.{count, oldest, words}
use Rattle.transmitter.specs.declared.side.Transmitter.{Transmitter}
use Rattle.channels.specs.History.{Past, fits_again, next, opens_now, past, receiver_open, receiver_serial, sender_open}
use Rattle.words.specs.declared.answers.Refusal.{Refusal}
use Rattle.bus.specs.declared.slice.Given.{Given}

-- ---- a channel open at both ends

-- T, which has the address `from`, and R, which has the address `to`, are open with each other
pub record Between (t : Transmitter) (r : Receiver) (from to : ℕ) : Type 0 where
  -- T is open, and the destination that it latched at its opening is R's address
  pub opened : t.end.opened ≡ true
  pub destination : t.channel.destination ≡ to
  -- R is open, and its opening's sender has T's address
  pub opened_there : r.end.opened ≡ true
  pub sender : r.modes.sender ≡ from

-- the transmitter of one unit, and the receiver of one, which may be the same unit
abbrev pub Joined : List ℕ → ℕ → ℕ → Type 0
Joined cells sender receiver =
    Between (transmitter_of cells sender) (receiver_of cells receiver) (transmitter_address cells sender) (receiver_address cells receiver)

-- of two units that are fitted
pub record OpenBetween (cells : List ℕ) (sender receiver : ℕ) : Type 0 where
  pub fitted : sender < count_in cells
  pub fitted_there : receiver < count_in cells
  pub joined : Joined cells sender receiver

-- ---- (1) "a channel open at both ends was opened by both in the same slice"

-- T did open, in an event of the run, and R last opened in the same
abbrev pub OpenedTogether : Past → Type 0
OpenedTogether p =
    (sender receiver : ℕ) → sender < count_in p.world.cells → receiver < count_in p.world.cells → Joined p.world.cells sender receiver
    → (0 < p.sender sender) × (p.sender sender ≡ p.receiver receiver)

-- and neither has closed since: where two sides are open with each other and T last opened at p or before, they were open with each other
-- at p
abbrev pub OpenSince : Past → Type 0
OpenSince p =
    (es : List Event) → AllHanded es → (sender receiver : ℕ) → OpenBetween (past es p).world.cells sender receiver
    → (past es p).sender sender ≤ p.events → OpenBetween p.world.cells sender receiver

-- and whenever a transmitter opens, it is in its own slice
abbrev pub OpensInOwnSlice : Past → Type 0
OpensInOwnSlice p =
    (e : Event) → Handed e → (sender : ℕ) → sender < count_in (next e p).world.cells → sender_open p.world sender ≡ false
    → sender_open (next e p).world sender ≡ true → kind_of (transmitter_address p.world.cells sender) e p.world ≡ own

-- ---- (2) "what R stores between an opening and the close of its channel was sent by one transmitter on one channel of that transmitter"

-- R takes a word: after the event its silo holds more than before it
abbrev pub Stores : Event → World → ℕ → Type 0
Stores e w receiver = count (receiver_of w.cells receiver).end.silo < count (receiver_of (step e w).cells receiver).end.silo

-- it came from that unit's transmitter: the event is T's slice, and after it T and R are open with each other, on a channel that both
-- opened in one slice
pub record StoredFrom (e : Event) (p : Past) (receiver sender : ℕ) : Type 0 where
  pub fitted : sender < count_in (next e p).world.cells
  pub own : kind_of (transmitter_address p.world.cells sender) e p.world ≡ own
  pub joined : Joined (next e p).world.cells sender receiver
  pub together : (next e p).sender sender ≡ (next e p).receiver receiver

-- the damage mask over the 16 data lines; only a slice names one
abbrev pub mask_of : Event → ℕ
mask_of (fit setup) = 0
mask_of (write unit offset word) = 0
mask_of (write_byte unit offset byte) = 0
mask_of (read unit offset) = 0
mask_of (slice mask parity) = mask
mask_of (move unit side) = 0
mask_of (period unit) = 0
mask_of (reset unit) = 0
mask_of (level unit side) = 0
mask_of (serial unit side) = 0
mask_of (host_write unit place word) = 0

-- what T sends is what R takes: it has A 10, and behind the words that R's silo held stands that one, with the lines inverted that the mask
-- names
pub record Passed (t : Transmitter) (mask : ℕ) (r after : Receiver) : Type 0 where
  pub code : code_of (chosen t) ≡ 2
  pub word : words after.end.silo ≡ words r.end.silo ++ (bit_xor (sent_by t (chosen t)).word mask ∷ [])

-- it is a word, and no CRC: it is the oldest in T's silo
abbrev pub FromSilo : Transmitter → Type 0
FromSilo t = (sent_by t (chosen t)).word ≡ oldest t.end.silo

-- R's word is T's, and T and R are the ends of one channel
pub record SentFrom (e : Event) (p : Past) (receiver sender : ℕ) : Type 0 where
  pub channel : StoredFrom e p receiver sender
  pub passed : Passed (transmitter_of p.world.cells sender) (mask_of e) (receiver_of p.world.cells receiver) (receiver_of (next e p).world.cells receiver)
  pub word : FromSilo (transmitter_of p.world.cells sender)

-- every word that R takes was sent by a transmitter, and an event brings one at most
abbrev pub SentByOne : Past → Type 0
SentByOne p =
    (e : Event) → Handed e → (receiver : ℕ) → receiver < count_in (next e p).world.cells → Stores e p.world receiver
    → (sender : ℕ) × SentFrom e p receiver sender

-- "A call with unit and side shows it", the serial (document 02, No. 6): both ends show one number
abbrev pub ShowOne : World → ℕ → ℕ → Type 0
ShowOne w sender receiver = (number : ℕ) × Serial w sender 0 number × Serial w receiver 1 number

-- and whenever a receiver opens, it is by a word of a transmitter's that was closed, and that opens in the same event; the serial is "copied
-- to the receiver with the opening word"
abbrev pub OpensTogether : Past → Type 0
OpensTogether p =
    (e : Event) → Handed e → (receiver : ℕ) → receiver < count_in (next e p).world.cells → receiver_open p.world receiver ≡ false
    → receiver_open (next e p).world receiver ≡ true
    → (sender : ℕ) × (sender_open p.world sender ≡ false) × SentFrom e p receiver sender × ShowOne (next e p).world sender receiver

-- and whenever a transmitter opens, a receiver opens with it
abbrev pub OpensWithOne : Past → Type 0
OpensWithOne p =
    (e : Event) → Handed e → (sender : ℕ) → sender < count_in (next e p).world.cells → sender_open p.world sender ≡ false
    → sender_open (next e p).world sender ≡ true
    → (receiver : ℕ) × (receiver_open p.world receiver ≡ false) × OpenBetween (next e p).world.cells sender receiver

-- and two words that R takes on one channel, so that its last opening is the same at both, came from the same transmitter, whose last
-- opening is the same at both too
abbrev pub OnOneChannel : Past → Type 0
OnOneChannel p =
    (e : Event) → Handed e → (between : List Event) → AllHanded between → (later : Event) → Handed later → (receiver first second : ℕ)
    → StoredFrom e p receiver first → StoredFrom later (past between (next e p)) receiver second
    → (next later (past between (next e p))).receiver receiver ≡ (next e p).receiver receiver
    → (first ≡ second) × ((next later (past between (next e p))).sender second ≡ (next e p).sender first)

-- ---- the count of 128

-- T and R have counted as many words since the last CRC that was good, whatever was damaged
abbrev pub CountTogether : Past → Type 0
CountTogether p =
    (sender receiver : ℕ) → OpenBetween p.world.cells sender receiver
    → (transmitter_of p.world.cells sender).end.block ≡ (receiver_of p.world.cells receiver).end.block

-- ---- serials: document 02, No. 6

-- "the transmitter side raises by one at each opening, starting again at 0 after 65,535 .. Only a new fit resets it, to 0": T's serial is the
-- count of its openings since the last fit, whatever else was called, INITs and resets included
abbrev pub SerialCounts : Past → Type 0
SerialCounts p = (sender : ℕ) → sender < count_in p.world.cells → Serial p.world sender 0 (p.openings sender % 65536)

-- "copied to the receiver with the opening word" is in `OpensTogether`; "kept after closing": a receiver that does not open keeps the one that
-- it has, and only a new fit resets it
abbrev pub SerialKept : Past → Type 0
SerialKept p =
    (e : Event) → Handed e → (receiver : ℕ) → receiver < count_in (next e p).world.cells
    → opens_now (receiver_open p.world receiver) (receiver_open (next e p).world receiver) ≡ false
    → receiver_serial (next e p).world receiver ≡ pick (fits_again e p.world) 0 (receiver_serial p.world receiver)

-- while a channel is open at both ends they show the same one
abbrev pub SerialTogether : Past → Type 0
SerialTogether p = (sender receiver : ℕ) → OpenBetween p.world.cells sender receiver → ShowOne p.world sender receiver

-- and so they do after the event that closes it at either end: a success, a rejection, an error, an INIT, a reset; but for a fit
abbrev pub SerialOutlasts : Past → Type 0
SerialOutlasts p =
    (e : Event) → Handed e → fits_again e p.world ≡ false → (sender receiver : ℕ) → OpenBetween p.world.cells sender receiver
    → ShowOne (next e p).world sender receiver

-- ---- the index: document 02, No. 8

-- "Its answer equals the full look-through for all 32 numbers, including 0 and the unused ones."
abbrev pub AddressesIndexed : Past → Type 0
AddressesIndexed p = Indexed p.world.cells

-- ---- success

-- what a slice call answers
abbrev pub called_in : Past → ℕ → ℕ → Result (Option Given) Refusal
called_in p mask parity = (slice_call p.world.cells mask parity).0

-- it is answered 0, with A 11 and B 11
pub record Succeeds (call : Result (Option Given) Refusal) : Type 0 where
  pub number : slice_number call ≡ 0
  pub a : a_of (slice_value call) ≡ 3
  pub b : b_of (slice_value call) ≡ 3

-- it is T's slice, and before it T and R were open with each other, on a channel that both opened in one slice; after it they show one
-- serial
pub record SucceededBetween (mask parity : ℕ) (p : Past) (sender receiver : ℕ) : Type 0 where
  pub address : transmitter_address p.world.cells sender ≡ address_of (slice_value (called_in p mask parity))
  pub between : OpenBetween p.world.cells sender receiver
  pub together : p.sender sender ≡ p.receiver receiver
  -- document 02, No. 6: "both ends show the same one at success"
  pub serial : ShowOne (next (slice mask parity) p).world sender receiver

-- a message succeeds only between the two ends of one channel
abbrev pub SucceedsTogether : Past → Type 0
SucceedsTogether p =
    (mask parity : ℕ) → Succeeds (called_in p mask parity) → (sender : ℕ) × (receiver : ℕ) × SucceededBetween mask parity p sender receiver

-- ---- all of it, at any place of a run

pub record Channels (p : Past) : Type 0 where
  pub opened_together : OpenedTogether p
  pub open_since : OpenSince p
  pub opens_in_own_slice : OpensInOwnSlice p
  pub sent_by_one : SentByOne p
  pub opens_together : OpensTogether p
  pub opens_with_one : OpensWithOne p
  pub on_one_channel : OnOneChannel p
  pub count_together : CountTogether p
  pub serial_counts : SerialCounts p
  pub serial_kept : SerialKept p
  pub serial_together : SerialTogether p
  pub serial_outlasts : SerialOutlasts p
  pub addresses_indexed : AddressesIndexed p
  pub succeeds_together : SucceedsTogether p
