-- A side's window, by the cells of its head that a slice may change and the cells of its silo's ring; and two of them, as a plain slice leaves
-- them.
-- Assumes nothing.
use Rattle.std.specs.Prelude.{List, ◌∷◌, ℕ, ◌+◌, ◌-◌, ◌*◌, ◌/◌, ◌%◌, set}
use Rattle.codec.specs.Window.{cell, window, splice}
use Rattle.plain.specs.Places.{front, behind, with_one, without_oldest}
use Rattle.words.specs.Crc.{crc_word}

abbrev pub headed : List ℕ → ℕ → ℕ → ℕ → ℕ → ℕ → ℕ → List ℕ → List ℕ
headed cells at ring block control status crc words =
    ring ∷ block ∷ cell cells (at + 2) ∷ cell cells (at + 3) ∷ cell cells (at + 4) ∷ control ∷ status ∷ crc ∷ cell cells (at + 8) ∷ words

-- put where it stands
abbrev pub written : List ℕ → ℕ → ℕ → ℕ → ℕ → ℕ → ℕ → List ℕ → List ℕ
written cells at ring block control status crc words = splice cells at (headed cells at ring block control status crc words)

-- the control cell without the period's mark, and the status cell with the codes 10 and 11
abbrev pub unmarked : ℕ → ℕ
unmarked control = control - control / 8 % 2 * 8

abbrev pub acknowledged : ℕ → ℕ
acknowledged status = status / 16 * 16 + 14

-- ---- what each case of a plain slice writes at each end

-- a word was accepted: it leaves its cell of the ring as it is
abbrev pub word_sent : List ℕ → ℕ → ℕ → List ℕ
word_sent cells t crc =
    written cells t (without_oldest (cell cells t)) (cell cells (t + 1) + 1) (unmarked (cell cells (t + 5))) (acknowledged (cell cells (t + 6))) crc
    (window cells (t + 9) 64)

-- and stored: one cell of the ring is set
abbrev pub word_stored : List ℕ → ℕ → ℕ → ℕ → List ℕ
word_stored cells r word crc =
    written cells r (with_one (cell cells r)) (cell cells (r + 1) + 1) (unmarked (cell cells (r + 5))) (acknowledged (cell cells (r + 6))) crc
    (set (window cells (r + 9) 64) (behind (cell cells r)) word)

-- both, of a word
abbrev pub carried_as : List ℕ → ℕ → ℕ → ℕ → List ℕ
carried_as cells t r word =
    word_stored (word_sent cells t (crc_word (cell cells (t + 7)) word)) r word (crc_word (cell cells (t + 7)) word)

-- of the transmitter's oldest
abbrev pub first_at : List ℕ → ℕ → ℕ
first_at cells t = cell cells (t + 9 + front (cell cells t))

abbrev pub word_carried : List ℕ → ℕ → ℕ → List ℕ
word_carried cells t r = carried_as cells t r (first_at cells t)

-- a due CRC was sent, and taken: codes 10 and 01, and a verdict is awaited; where none was owed, it is owed as good
abbrev pub due_sent : List ℕ → ℕ → List ℕ
due_sent cells t =
    written cells t (cell cells t) (cell cells (t + 1)) (cell cells (t + 5)) (cell cells (t + 6) / 16 * 16 + 6 + 32768) (cell cells (t + 7)) (window cells (t + 9) 64)

abbrev pub due_taken : List ℕ → ℕ → List ℕ
due_taken cells r =
    written cells r (cell cells r) (cell cells (r + 1)) (cell cells (r + 5)) (cell cells (r + 6) / 16 * 16 + 6 + 64 + 256) (cell cells (r + 7)) (window cells (r + 9) 64)

-- it was found good: both counts restart, and no verdict is awaited or owed
abbrev pub sender_restarted : List ℕ → ℕ → List ℕ
sender_restarted cells t = written cells t (cell cells t) 0 (cell cells (t + 5)) (acknowledged (cell cells (t + 6) % 32768)) 0 (window cells (t + 9) 64)

abbrev pub receiver_restarted : List ℕ → ℕ → List ℕ
receiver_restarted cells r = written cells r (cell cells r) 0 (cell cells (r + 5)) (acknowledged (cell cells (r + 6)) - 320) 0 (window cells (r + 9) 64)
