-- A whole transfer at one side of a fitted unit: "moves until 4, or until a move sets NXL, BC OFL or memory overflow; the count of words
-- moved .., the missing address after No. 3". Each move is the single one of `moves`, `Moving`, on what the one before it left. After a
-- move that sets one of the three bits ERR stands, so that a next one would answer 4 and leave everything.
-- Assumes nothing.
use Rattle.std.specs.Prelude.{not, List, ℕ, zero, suc, ◌+◌, Result, Ok, Err, Option, Some, None}
use Rattle.cells.specs.Fitted.{transmitter_of, receiver_of}
use Rattle.laws.specs.Bits.{bit}
use Rattle.laws.specs.Pick.{pick}
use Rattle.moves.specs.Moving.{transmitter_moved, receiver_moved}
use Rattle.receiver.specs.Moves as R
use Rattle.transmitter.specs.Moves as T
use Rattle.words.specs.declared.answers.Refusal.{Refusal}
use Rattle.service.specs.declared.transfers.Transfer.{Transfer}

-- a move that is done goes on, from what it left; any other is the last, after so many words
abbrev pub moved_then : {A : Type 0} → ℕ → (A → Result Transfer Refusal × A) → Result (Option ℕ) Refusal × A → Result Transfer Refusal × A
moved_then words next (Ok None, after) = next after
moved_then words next (Ok (Some address), after) = (Ok (record { words = words; missing = Some address }), after)
moved_then words next (Err refusal, after) = (Ok (record { words = words; missing = None }), after)

-- so many single moves at most, after so many words. `with` says how many words go with a move that is done
unfoldable pub moves_from : {A : Type 0} → (A → Result (Option ℕ) Refusal × A) → (A → ℕ) → ℕ → ℕ → A → Result Transfer Refusal × A
moves_from move with zero words a = (Ok (record { words = words; missing = None }), a)
moves_from move with (suc left) words a = moved_then words (moves_from move with left (words + with a)) (move a)

-- what a move is lent, and what it leaves
pub record Lent : Type 0 where
  pub cells : List ℕ
  pub memory : List ℕ

abbrev pub lent : List ℕ → List ℕ → Lent
lent cells memory = record { cells = cells; memory = memory }

-- ---- a transmitter's moves, which leave the memory

abbrev pub sent_on : List ℕ → Result (Option ℕ) Refusal × List ℕ → Result (Option ℕ) Refusal × Lent
sent_on memory m = (m.0, lent m.1 memory)

abbrev pub transmitter_moved_on : ℕ → Lent → Result (Option ℕ) Refusal × Lent
transmitter_moved_on unit l = sent_on l.memory (transmitter_moved l.cells l.memory unit)

-- "Else the word is loaded": a word goes with each that is done
abbrev pub words_out : ℕ → ℕ → ℕ → Lent → Result Transfer Refusal × Lent
words_out unit = moves_from (transmitter_moved_on unit) (λ (l : Lent). 1)

abbrev pub cells_left_by : Result Transfer Refusal × Lent → Result Transfer Refusal × List ℕ
cells_left_by p = (p.0, p.1.cells)

-- A silo holds 64 words, so that the last of 65 moves finds nothing to move (`Laws`, `Ended`). Where the first does, the answer is 4.
abbrev pub transmitter_transferred : List ℕ → List ℕ → ℕ → Result Transfer Refusal × List ℕ
transmitter_transferred cells memory unit =
    pick (not (T.may_move (transmitter_of cells unit))) (Err Refusal.Nothing, cells) (cells_left_by (words_out unit 65 0 (lent cells memory)))

-- ---- a receiver's moves

abbrev pub received_on : Result (Option ℕ) Refusal × List ℕ × List ℕ → Result (Option ℕ) Refusal × Lent
received_on m = (m.0, lent m.1 m.2)

abbrev pub receiver_moved_on : ℕ → Lent → Result (Option ℕ) Refusal × Lent
receiver_moved_on unit l = received_on (receiver_moved l.cells l.memory unit)

-- "Not loaded: BC OFL", and "A word meeting NXL or BC OFL stays where it was": a word goes with each that is done where RDBC is loaded
abbrev pub words_with : List ℕ → ℕ → ℕ
words_with cells unit = bit (receiver_of cells unit).end.load.loaded

abbrev pub words_in : ℕ → ℕ → ℕ → Lent → Result Transfer Refusal × Lent
words_in unit = moves_from (receiver_moved_on unit) (λ (l : Lent). words_with l.cells unit)

abbrev pub left_by : Result Transfer Refusal × Lent → Result Transfer Refusal × List ℕ × List ℕ
left_by p = (p.0, p.1.cells, p.1.memory)

abbrev pub receiver_transferred : List ℕ → List ℕ → ℕ → Result Transfer Refusal × List ℕ × List ℕ
receiver_transferred cells memory unit =
    pick (not (R.may_move (receiver_of cells unit))) (Err Refusal.Nothing, cells, memory) (left_by (words_in unit 65 0 (lent cells memory)))
