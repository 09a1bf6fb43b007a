-- Document 02, No. 2, from end to end: readings that were built and are sent under the conditions of demand 3, and what the host of R gets
-- of them by receiving, at each place of the run, in Rattle and in C. No. 6: they come with the serial of the opening, so that the host can
-- tell this message from the last.
-- Under those conditions both ends have moved until 4 before each of T's slices: a host that is slower lies outside. Of it, and of whatever
-- else the cells may hold, board.specs.Received says when receiving gives readings, and when it answers "message not complete".
-- Assumes nothing.
use Rattle.std.specs.Prelude.{List, map, ◌≡◌, ℕ, ◌+◌, ◌*◌, ◌≤◌, ◌<◌, length, get_or, take, Result, Ok, Err}
use Rattle.board.specs.Numbers.{receive_face}
use Rattle.board.specs.Receive.{receive_call}
use Rattle.board.specs.declared.answers.ReceiveError.{ReceiveError}
use Rattle.board.specs.declared.answers.Received.{Received}
use Rattle.cells.specs.Fitted.{receiver_of}
use Rattle.promise.specs.Statement.{after, all_slices, message, own_slices, parties, round}
use Rattle.promise.specs.World.{World, Event}
use Rattle.readings.specs.Build.{build_call}
use Rattle.readings.specs.Messages.{lent, over}
use Rattle.readings.specs.Readings.{lent_reading, number_of}
use Rattle.readings.specs.declared.answers.BuildError.{BuildError}
use Rattle.readings.specs.declared.answers.ReadError.{ReadError}
use Rattle.readings.specs.declared.answers.View.{View}
use Rattle.words.specs.Slices.{slices_of}

-- start is the world before the opening slice
module _ (start : World) where
  -- R's unit
  abbrev pub receiver : ℕ
  receiver = (parties start).receiver

  -- the byte address at which R's load stands at the opening: RDBA, with EA17 and EA16 above it
  abbrev pub first : ℕ
  first = (receiver_of start.cells receiver).end.load.address.0

  -- "readings built .. and sent": building was handed these numbers and answered so many words, and the message that is opened is the words
  -- that it wrote
  pub record Sent (numbers : List ℕ) (words : ℕ) : Type 0 where
    pub room : List ℕ
    pub left : List ℕ
    pub built : ◌≡◌ {A = Result ℕ BuildError × List ℕ} (Ok words, left) (build_call 1 numbers room)
    pub opened : (message start).content ≡ take words left

  -- receiving at R, with room lent: the answer, and the cells and the room as they are left
  abbrev pub receiving : World → List ℕ → Result Received ReceiveError × List ℕ × List ℕ
  receiving w room = receive_call 1 w.cells (w.memory receiver) receiver first room

  -- document 02, No. 6: the serial of the opening, T's before it raised by one
  abbrev pub serial : ℕ
  serial = (message start).serial

  -- "message not complete", and the serial that the receiver shows beside it: nothing is given, and all stays as it was
  abbrev pub NotComplete : ℕ → World → Type 0
  NotComplete shown w = (room : List ℕ) → 64 ≤ length room → receiving w room ≡ (Err (ReceiveError.Message ReadError.NotComplete shown), w.cells, room)

  -- the readings, with the serial: so many as were handed in, each as C gets it, and the rest of the room as it was
  abbrev pub Given : List ℕ → World → Type 0
  Given numbers w =
      (room : List ℕ) → 64 ≤ length room
      → receiving w room ≡ (Ok (record { view = record { count = length numbers }; serial = serial }), w.cells, over (map number_of (lent numbers)) room)

  -- the same as C gets it: 1, "message not complete"; and 0 with 65,536 times over it the count of readings, and over that the serial
  abbrev pub receiving_for_c : World → List ℕ → ℕ × List ℕ × List ℕ
  receiving_for_c w room = receive_face 1 w.cells (w.memory receiver) receiver first room

  abbrev pub NotCompleteForC : World → Type 0
  NotCompleteForC w = (room : List ℕ) → 64 ≤ length room → receiving_for_c w room ≡ (1, w.cells, room)

  abbrev pub GivenForC : List ℕ → World → Type 0
  GivenForC numbers w =
      (room : List ℕ) → 64 ≤ length room → receiving_for_c w room ≡ ((length numbers + serial * 65536) * 65536, w.cells, over (map number_of (lent numbers)) room)

  -- on exactly the slice of the formula and ever after, and not before; and within L times as many slices
  pub record OnSlice (Before From : World → Type 0) (words : ℕ) (es : List Event) : Type 0 where
    pub not_before : own_slices start es < slices_of words → Before (after start es)
    pub from_then : slices_of words ≤ own_slices start es → From (after start es)
    pub in_time : round start * slices_of words ≤ all_slices start es → From (after start es)

  abbrev pub Arrival : List ℕ → ℕ → List Event → Type 0
  Arrival numbers words es = OnSlice (NotComplete serial) (Given numbers) words es

  abbrev pub ArrivalForC : List ℕ → ℕ → List Event → Type 0
  ArrivalForC numbers words es = OnSlice NotCompleteForC (GivenForC numbers) words es

  -- ---- "given as a value or as absent, never as 0 for want of one"

  -- wherever receiving gives readings, they are those that were handed in: a value is given as that value, and none as none; so a zero that
  -- is given is a zero that was handed in. And the serial that comes with them is this message's
  pub record Faithful (numbers : List ℕ) (w : World) (room : List ℕ) (view : View) (shown : ℕ) : Type 0 where
    pub counted : view.count ≡ length numbers
    pub numbered : shown ≡ serial
    pub same : (i : ℕ) → i < view.count → get_or (receiving w room).2 i 0 ≡ number_of (lent_reading (get_or numbers i 0))
    pub no_zero : (i : ℕ) → i < view.count → get_or (receiving w room).2 i 0 ≡ 0 → get_or numbers i 0 ≡ 0
