-- What stands on the bus in one slice, and what the two ends tell each other beside it.
-- Assumes nothing.
use Rattle.std.specs.Prelude.{ℕ, Bool, false, not, bit_xor}
use Rattle.laws.specs.Pick.{pick}
use Rattle.words.specs.Parity.{parity_of}
use Rattle.words.specs.declared.lines.Answer.{Answer}
use Rattle.words.specs.declared.lines.Sent.{Sent}

-- the code A and the data, with their parity; whether it is an opening word, "marked as such" (document 02, No. 1); and the serial that is
-- "copied to the receiver with the opening word" (No. 6)
abbrev pub sent_as : ℕ → ℕ → Bool → ℕ → Sent
sent_as code word opening serial = record { code = code; word = word; parity = parity_of word; opening = opening; serial = serial }

-- "A slice call names a damage mask over 16 data lines and parity": it inverts lines (reading 22), and the mark of an opening word and its
-- serial are none (docs/DECISIONS.md, "The mark of an opening word", "Message serials")
abbrev pub damaged : Sent → ℕ → Bool → Sent
damaged s mask parity =
    pick parity (record { code = s.code; word = bit_xor s.word mask; parity = not s.parity; opening = s.opening; serial = s.serial })
    (record { code = s.code; word = bit_xor s.word mask; parity = s.parity; opening = s.opening; serial = s.serial })

-- the code B, with nothing told beside it
abbrev pub answered : ℕ → Answer
answered code = record { code = code; rejects = false; truncates = false; restarts = false; truncated = false }
