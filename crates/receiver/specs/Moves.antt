-- Document 01, Memory moves and periods: the receiver's moves.
-- Assumes nothing.
use Rattle.std.specs.Prelude.{Bool, true, not, ◌&&◌, List, ℕ, set, Option, Some, None, Result, Ok, Err}
use Rattle.ends.specs.declared.sides.Answered.{Answered}
use Rattle.laws.specs.Pick.{pick}
use Rattle.silos.specs.Silo.{oldest, taken}
use Rattle.words.specs.Address.{place_of}
use Rattle.words.specs.Load.{word_moved}
use Rattle.words.specs.declared.answers.Refusal.{Refusal}
use Rattle.words.specs.declared.load.Advance.{Advance}
use Rattle.receiver.specs.Fields.{with_byte_count_overflow, with_memory_overflow, with_nonexistent_location}
use Rattle.receiver.specs.Groups.{with_silo, with_load}
use Rattle.receiver.specs.Requests.{failed}
use Rattle.receiver.specs.Side.{has_error, data_out_ready}
use Rattle.receiver.specs.declared.side.Receiver.{Receiver}

-- a receiver after a move, and the answer
abbrev pub Moved : Type 0
Moved = Answered Receiver (Result (Option ℕ) Refusal)

-- "Receiver: RC NPR, a word, no ERR; else 4."
abbrev pub may_move : Receiver → Bool
may_move r = r.modes.memory_requests && data_out_ready r && not (has_error r)

-- "Not loaded: BC OFL." "A word meeting NXL or BC OFL stays where it was; these and memory overflow come with number 0."
abbrev pub exceeded : Receiver → Receiver
exceeded r = failed r (with_byte_count_overflow r.faults true)

-- "Address outside the memory: NXL."
abbrev pub nonexistent : Receiver → Receiver
nonexistent r = failed r (with_nonexistent_location r.faults true)

-- "An address wrapping past 777776 (octal) sets memory overflow." The move at 777776 itself is done (reading 30).
abbrev pub overflowed : Receiver → Receiver
overflowed r = failed r (with_memory_overflow r.faults true)

-- "Else alike, storing, but count 0 leaves RC NPR set": "2 added to count and, unless INH ADI, to the address"
abbrev pub gone : Receiver → Advance → Receiver
gone r a = with_load (with_silo r (taken r.end.silo)) a.load

abbrev pub advanced : Receiver → Advance → Receiver
advanced r a = pick a.overflow (overflowed (gone r a)) (gone r a)

abbrev pub word_passed : Receiver → Receiver
word_passed r = advanced r (word_moved r.end.load r.modes.inhibit_increment)

abbrev pub done_with : Receiver → Moved
done_with r = record { side = r; answer = Ok None }

-- "the move must hand it up with its answer 0" (document 02, No. 3): the address tried
abbrev pub missed_at : Receiver → ℕ → Moved
missed_at r address = record { side = nonexistent r; answer = Ok (Some address) }

-- the oldest word goes to an index of the memory
abbrev pub word_stored : Receiver → List ℕ → ℕ → Moved × List ℕ
word_stored r memory at = (done_with (word_passed r), set memory at (oldest r.end.silo))

-- to the load's address
abbrev pub moved_to : Receiver → List ℕ → Result ℕ ℕ → Moved × List ℕ
moved_to r memory (Ok at) = word_stored r memory at
moved_to r memory (Err address) = (missed_at r address, memory)

-- with a memory of so many words, which may be lent with more behind it (reading 33). The conditions of 4 go before BC OFL, and BC OFL
-- before NXL (reading 30).
abbrev pub moved : Receiver → List ℕ → ℕ → Moved × List ℕ
moved r memory fitted =
    pick (not (may_move r)) (record { side = r; answer = Err Refusal.Nothing }, memory)
    (pick (not r.end.load.loaded) (done_with (exceeded r), memory) (moved_to r memory (place_of r.end.load.address.0 fitted)))
