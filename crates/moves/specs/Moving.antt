-- Document 01, Memory moves and periods: a move at one side of a fitted unit, whose memory is the first words that are lent, as many as
-- were fitted (reading 33).
-- Assumes nothing.
use Rattle.std.specs.Prelude.{not, List, ℕ, Result, Err, Option}
use Rattle.cells.specs.Fitted.{transmitter_of, receiver_of, put_transmitter, put_receiver}
use Rattle.cells.specs.Layout.{memory_length}
use Rattle.laws.specs.Pick.{pick}
use Rattle.receiver.specs.Moves as R
use Rattle.transmitter.specs.Moves as T
use Rattle.words.specs.declared.answers.Refusal.{Refusal}

-- the answer, and the cells with the side put back: a transmitter's move leaves the memory
abbrev pub transmitter_moved_by : List ℕ → ℕ → T.Moved → Result (Option ℕ) Refusal × List ℕ
transmitter_moved_by cells unit m = (m.answer, put_transmitter cells unit m.side)

-- "Transmitter: TX NPR, loaded, no ERR, room, RD SILO clear, not ending; else 4", and with 4 every cell is as it was
abbrev pub transmitter_moved : List ℕ → List ℕ → ℕ → Result (Option ℕ) Refusal × List ℕ
transmitter_moved cells memory unit =
    pick (not (T.may_move (transmitter_of cells unit))) (Err Refusal.Nothing, cells)
    (transmitter_moved_by cells unit (T.moved (transmitter_of cells unit) memory (memory_length cells unit)))

-- the answer, the cells with the side put back, and the memory
abbrev pub receiver_moved_by : List ℕ → ℕ → R.Moved × List ℕ → Result (Option ℕ) Refusal × List ℕ × List ℕ
receiver_moved_by cells unit m = (m.0.answer, put_receiver cells unit m.0.side, m.1)

-- "Receiver: RC NPR, a word, no ERR; else 4", and with 4 every cell and every word of the memory is as it was
abbrev pub receiver_moved : List ℕ → List ℕ → ℕ → Result (Option ℕ) Refusal × List ℕ × List ℕ
receiver_moved cells memory unit =
    pick (not (R.may_move (receiver_of cells unit))) (Err Refusal.Nothing, cells, memory)
    (receiver_moved_by cells unit (R.moved (receiver_of cells unit) memory (memory_length cells unit)))
