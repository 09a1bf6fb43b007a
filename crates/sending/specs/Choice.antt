-- Document 01, One slice: whether T acts, and "A sent, first that fits"; document 02, No. 1: the mark of an opening word, and No. 6: its
-- serial.
-- Assumes nothing.
use Rattle.std.specs.Prelude.{Bool, true, false, not, ◌&&◌, ◌||◌, ℕ, eqb}
use Rattle.ends.specs.Ends.{raised}
use Rattle.laws.specs.Pick.{pick}
use Rattle.silos.specs.Silo.{is_empty, oldest}
use Rattle.transmitter.specs.Side.{has_error}
use Rattle.transmitter.specs.declared.side.Transmitter.{Transmitter}
use Rattle.words.specs.Lines.{sent_as}
use Rattle.words.specs.Load.{words_left}
use Rattle.words.specs.declared.lines.Sent.{Sent}
use Rattle.sending.specs.declared.choice.Choice.{Choice}

-- "T acts if its channel is open, or if it has SND WD, a word, a nonzero destination and no ERR; else idle." The destination is that of
-- the moment (reading 29).
abbrev pub may_open : Transmitter → Bool
may_open t = t.commands.send_word && not (is_empty t.end.silo) && not (eqb t.modes.destination 0) && not (has_error t)

-- "ST TXM or SND WD set"
abbrev pub wants_on : Transmitter → Bool
wants_on t = t.commands.start_transmission || t.commands.send_word

-- "ST TXM set, no bytes left, silo empty"
abbrev pub all_sent : Transmitter → Bool
all_sent t = t.commands.start_transmission && eqb (words_left t.end.load) 0 && is_empty t.end.silo

-- "Open: ERR, 00 and T closes;
--  ending, 11 with CRC;
--  a CRC sent and not yet answered 11, or 128 words since the last CRC, in both cases with ST TXM or SND WD set, 10 with CRC, except
--  that with no verdict awaited the next rule goes before it;
--  ST TXM set, no bytes left, silo empty, 11 with CRC, and T is ending until closed;
--  ST TXM or SND WD and a word, 10;
--  else 01."
-- Whatever set ERR, T closes by it only here (reading 28).
abbrev pub chosen_open : Transmitter → Choice
chosen_open t =
    pick (has_error t) Choice.Stopped
    (pick t.channel.ending Choice.LastCrc
    (pick (t.channel.awaiting && wants_on t) Choice.DueCrc
    (pick (all_sent t) Choice.LastCrc
    (pick (eqb t.end.block 128 && wants_on t) Choice.DueCrc
    (pick (wants_on t && not (is_empty t.end.silo)) Choice.Word
    Choice.Null)))))

-- "not open, 10 with a word"
abbrev pub chosen : Transmitter → Choice
chosen t = pick t.end.opened (chosen_open t) (pick (may_open t) Choice.Opening Choice.Idle)

-- whether T acts
abbrev pub acts_on : Choice → Bool
acts_on Choice.Idle = false
acts_on Choice.Opening = true
acts_on Choice.Stopped = true
acts_on Choice.LastCrc = true
acts_on Choice.DueCrc = true
acts_on Choice.Word = true
acts_on Choice.Null = true

-- "The destination is latched at opening."; of a closed T it is that of the moment (reading 29)
abbrev pub destination_of : Transmitter → ℕ
destination_of t = pick t.end.opened t.channel.destination t.modes.destination

-- the code A of each: 00 off line or error, 01 null, 10 word or CRC, 11 last CRC
abbrev pub code_of : Choice → ℕ
code_of Choice.Idle = 0
code_of Choice.Opening = 2
code_of Choice.Stopped = 0
code_of Choice.LastCrc = 3
code_of Choice.DueCrc = 2
code_of Choice.Word = 2
code_of Choice.Null = 1

-- "with a word", "with CRC"
abbrev pub word_of : Transmitter → Choice → ℕ
word_of t Choice.Idle = 0
word_of t Choice.Opening = oldest t.end.silo
word_of t Choice.Stopped = 0
word_of t Choice.LastCrc = t.end.crc
word_of t Choice.DueCrc = t.end.crc
word_of t Choice.Word = oldest t.end.silo
word_of t Choice.Null = 0

-- Document 02, No. 1: "An opening word must be marked as such." What a T sends that is not open is one, and nothing else is.
abbrev pub is_opening : Choice → Bool
is_opening Choice.Idle = false
is_opening Choice.Opening = true
is_opening Choice.Stopped = false
is_opening Choice.LastCrc = false
is_opening Choice.DueCrc = false
is_opening Choice.Word = false
is_opening Choice.Null = false

-- Beside all that T sends stands the serial that its next opening has (No. 6): it is "copied to the receiver with the opening word", and of
-- nothing else does R take it (`answering`, `opens`).
abbrev pub sent_by : Transmitter → Choice → Sent
sent_by t choice = sent_as (code_of choice) (word_of t choice) (is_opening choice) (raised t.end.serial)
