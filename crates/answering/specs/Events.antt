-- Document 01, One slice: what can happen to R in a slice of its channel.
-- Assumes nothing.
use Rattle.std.specs.Prelude.{Bool, true, false, not, ◌||◌, ℕ, eqb}
use Rattle.ends.specs.Ends as E
use Rattle.laws.specs.Pick.{pick}
use Rattle.receiver.specs.Fields.{with_reject, with_sender, with_parity, with_transmission_error, with_reject_complete, with_success, with_owed, with_good, with_bad_parity, with_truncated}
use Rattle.receiver.specs.Groups.{with_end, with_shown, with_commands, with_modes, with_outcome, with_channel}
use Rattle.receiver.specs.Requests.{requested, failed}
use Rattle.receiver.specs.Side.{no_commands, no_channel, has_error}
use Rattle.receiver.specs.declared.side.Channel.{Channel}
use Rattle.receiver.specs.declared.side.Outcome.{Outcome}
use Rattle.receiver.specs.declared.side.Receiver.{Receiver}
use Rattle.silos.specs.Silo.{put}
use Rattle.words.specs.Codes.{no_codes, codes_shown}
use Rattle.words.specs.Parity.{good_parity}
use Rattle.words.specs.declared.lines.Sent.{Sent}

-- "TSR bits 0 to 3 show the last own slice, are frozen by an error .. RSR's do so for slices of R's channel", the opening one too
-- (reading 14); an error that stood before the slice freezes them (reading 15)
abbrev pub showing : Receiver → ℕ → ℕ → Receiver
showing r a b = with_shown r (codes_shown r.end.shown (has_error r) a b)

-- "Closing R clears RCV WD, RCV DAT, REJ."; "R is marked truncated until it closes"; "not being busy, clears" the period's mark. Nothing
-- else changes: no silo, no load, no RC NPR, no CRC (reading 27).
abbrev pub closed : Receiver → Receiver
closed r =
    with_channel (with_modes (with_commands (with_end r (E.with_mark (E.with_opened r.end false) false)) no_commands) (with_reject r.modes false))
    (with_truncated r.channel false)

-- PAR, with its request
abbrev pub parity_failed : Receiver → Receiver
parity_failed r = failed r (with_parity r.faults true)

-- TXM ERR, with its request
abbrev pub transmission_failed : Receiver → Receiver
transmission_failed r = failed r (with_transmission_error r.faults true)

-- RECOM, with its request
abbrev pub reject_completed : Receiver → Receiver
reject_completed r = requested (with_outcome r (with_reject_complete r.outcome true))

-- "Success sets SUC TXF at both ends (and SORE, RECOM if truncated)", with its request, also where they stand (reading 11); RSR bits
-- 0 to 3 are "cleared by SUC TXF" (reading 16)
abbrev success : Outcome → Bool → Outcome
success o truncated = with_success (with_reject_complete o (truncated || o.reject_complete)) true

abbrev pub succeeded : Receiver → Receiver
succeeded r = requested (with_shown (with_outcome r (success r.outcome r.channel.truncated)) no_codes)

-- a word that is stored, also where T meant a CRC (docs/DECISIONS.md, "A CRC that R stores"): it is counted; whether it "had bad parity"
-- is marked (reading 22)
abbrev pub word_kept : Receiver → Sent → Receiver
word_kept r sent =
    with_channel (with_end r (E.counted (E.with_silo r.end (put 64 r.end.silo sent.word)) sent.word))
    (with_bad_parity r.channel (not (good_parity sent.word sent.parity)))

-- Registers, requests: "or a word stored with RCV DAT clear", whatever RC NPR is (reading 12)
abbrev pub word_stored : Receiver → Sent → Receiver
word_stored r sent = pick r.commands.receive_data (word_kept r sent) (requested (word_kept r sent))

-- "At opening each end starts CRC, count of 128 and verdict, parity and truncation marks afresh"; RCR bits "8 to 12 the last opening's
-- sender address"; the serial is "copied to the receiver with the opening word" (document 02, No. 6)
abbrev pub opening : Receiver → ℕ → ℕ → Receiver
opening r from serial = with_channel (with_modes (with_end r (E.opening r.end serial)) (with_sender r.modes from)) no_channel

-- a CRC is taken: "a verdict is on the CRC as first taken" (reading 25; docs/DECISIONS.md, "A verdict is an equality"), "a CRC's parity
-- isn't checked" (reading 22), and R's own CRC and count stay (reading 23)
abbrev pub verdict : Channel → Bool → Channel
verdict c good = with_good (with_owed c true) good

abbrev pub crc_taken : Receiver → Sent → Receiver
crc_taken r sent = with_channel r (verdict r.channel (eqb sent.word r.end.crc))

-- "both counts restart", and the CRC (reading 24); no verdict is owed (reading 25)
abbrev pub restarted : Receiver → Receiver
restarted r = with_channel (with_end r (E.restarted r.end)) (with_good (with_owed r.channel false) false)

-- "R is marked truncated until it closes"; no silo is cleared (reading 27)
abbrev pub truncated_now : Receiver → Receiver
truncated_now r = with_channel r (with_truncated r.channel true)
