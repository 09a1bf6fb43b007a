-- Document 01, Memory moves and periods: the transmitter's moves.
-- Assumes nothing.
use Rattle.std.specs.Prelude.{Bool, true, not, ◌&&◌, List, ℕ, get_or, Option, Some, None, Result, Ok, Err}
use Rattle.ends.specs.declared.sides.Answered.{Answered}
use Rattle.laws.specs.Pick.{pick}
use Rattle.silos.specs.Silo.{has_room, put}
use Rattle.words.specs.Address.{place_of}
use Rattle.words.specs.Load.{word_moved}
use Rattle.words.specs.declared.answers.Refusal.{Refusal}
use Rattle.words.specs.declared.load.Advance.{Advance}
use Rattle.words.specs.declared.load.Load.{Load}
use Rattle.transmitter.specs.Fields.{with_memory_requests, with_memory_overflow, with_nonexistent_location}
use Rattle.transmitter.specs.Groups.{with_silo, with_load, with_modes}
use Rattle.transmitter.specs.Requests.{failed}
use Rattle.transmitter.specs.Side.{has_error}
use Rattle.transmitter.specs.declared.side.Modes.{Modes}
use Rattle.transmitter.specs.declared.side.Transmitter.{Transmitter}

-- a transmitter after a move, and the answer
abbrev pub Moved : Type 0
Moved = Answered Transmitter (Result (Option ℕ) Refusal)

-- "Transmitter: TX NPR, loaded, no ERR, room, RD SILO clear, not ending; else 4."
abbrev pub may_move : Transmitter → Bool
may_move t =
    t.modes.memory_requests && t.end.load.loaded && not (has_error t) && has_room 64 t.end.silo && not t.modes.read_silo
    && not t.channel.ending

-- "Address outside the memory: NXL." It and memory overflow "come with number 0".
abbrev pub nonexistent : Transmitter → Transmitter
nonexistent t = failed t (with_nonexistent_location t.faults true)

-- "An address wrapping past 777776 (octal) sets memory overflow." The move at 777776 itself is done (reading 30).
abbrev pub overflowed : Transmitter → Transmitter
overflowed t = failed t (with_memory_overflow t.faults true)

-- "Count 0 clears TX NPR": it stays only where it stood and the load goes on
abbrev pub requests_after : Modes → Load → Modes
requests_after m after = with_memory_requests m (m.memory_requests && after.loaded)

-- "Else the word is loaded, 2 added to count and, unless INH ADI, to the address."
abbrev pub gone : Transmitter → ℕ → Advance → Transmitter
gone t word a = with_modes (with_load (with_silo t (put 64 t.end.silo word)) a.load) (requests_after t.modes a.load)

abbrev pub advanced : Transmitter → ℕ → Advance → Transmitter
advanced t word a = pick a.overflow (overflowed (gone t word a)) (gone t word a)

abbrev pub word_loaded : Transmitter → ℕ → Transmitter
word_loaded t word = advanced t word (word_moved t.end.load t.modes.inhibit_increment)

abbrev pub done_with : Transmitter → Moved
done_with t = record { side = t; answer = Ok None }

-- "the move must hand it up with its answer 0" (document 02, No. 3): the address tried
abbrev pub missed_at : Transmitter → ℕ → Moved
missed_at t address = record { side = nonexistent t; answer = Ok (Some address) }

-- the word at the load's address
abbrev pub moved_from : Transmitter → List ℕ → Result ℕ ℕ → Moved
moved_from t memory (Ok at) = done_with (word_loaded t (get_or memory at 0))
moved_from t memory (Err address) = missed_at t address

-- with a memory of so many words, which may be lent with more behind it (reading 33). The conditions of 4 go before NXL (reading 30).
abbrev pub moved : Transmitter → List ℕ → ℕ → Moved
moved t memory fitted =
    pick (not (may_move t)) (record { side = t; answer = Err Refusal.Nothing })
    (moved_from t memory (place_of t.end.load.address.0 fitted))
