-- Document 01, One slice: T, what it sends, R's answer, and what T makes of it.
-- Assumes nothing.
use Rattle.std.specs.Prelude.{Bool, ℕ}
use Rattle.answering.specs.Rules.{Answered, answered_by}
use Rattle.laws.specs.Pick.{pick}
use Rattle.receiver.specs.declared.side.Receiver.{Receiver}
use Rattle.sending.specs.Choice.{acts_on, chosen, code_of, sent_by}
use Rattle.sending.specs.Hearing.{heard}
use Rattle.sending.specs.declared.choice.Choice.{Choice}
use Rattle.transmitter.specs.declared.side.Transmitter.{Transmitter}
use Rattle.words.specs.Codes.{no_codes}
use Rattle.words.specs.Lines.{answered, damaged}
use Rattle.words.specs.declared.lines.Sent.{Sent}
use Rattle.slices.specs.declared.Alone.{Alone}
use Rattle.slices.specs.declared.Pair.{Pair}

-- both ends after R's answer, and the codes A and B
abbrev pub pair_of : Transmitter → ℕ → Answered → Pair
pair_of t code a = record { transmitter = t; receiver = a.side; codes = record { a = code; b = a.answer.code } }

abbrev pub ended : Transmitter → Choice → Answered → Pair
ended t choice a = pair_of (heard t choice a.answer) (code_of choice) a

abbrev pub passed : Transmitter → Choice → Receiver → ℕ → Sent → Pair
passed t choice r from sent = ended t choice (answered_by r from sent)

-- "T acts if ..; else idle": "A and B 00, nothing else", the codes shown at both ends included (reading 14). What T sends reaches R with
-- the damage, which is an inversion of lines (reading 22).
abbrev pub exchanged_as : Transmitter → Choice → Receiver → ℕ → ℕ → Bool → Pair
exchanged_as t choice r from mask parity =
    pick (acts_on choice) (passed t choice r from (damaged (sent_by t choice) mask parity))
    (record { transmitter = t; receiver = r; codes = no_codes })

abbrev pub exchanged : Transmitter → Receiver → ℕ → ℕ → Bool → Pair
exchanged t r from mask parity = exchanged_as t (chosen t) r from mask parity

-- Rule 1: "None ..: B 00"
abbrev pub alone_of : Transmitter → ℕ → Alone
alone_of t code = record { transmitter = t; codes = record { a = code; b = 0 } }

abbrev pub unheard : Transmitter → Choice → Alone
unheard t choice = alone_of (heard t choice (answered 0)) (code_of choice)

abbrev pub sent_alone_as : Transmitter → Choice → Alone
sent_alone_as t choice = pick (acts_on choice) (unheard t choice) (record { transmitter = t; codes = no_codes })

abbrev pub sent_alone : Transmitter → Alone
sent_alone t = sent_alone_as t (chosen t)
