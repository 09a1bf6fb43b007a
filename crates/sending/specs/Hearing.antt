-- Document 01, One slice: "T on B", the chart, and what comes over it.
-- Assumes nothing.
use Rattle.std.specs.Prelude.{Bool, true, ℕ, eqb}
use Rattle.laws.specs.Pick.{pick}
use Rattle.transmitter.specs.Requests.{settled}
use Rattle.transmitter.specs.Fields.{with_ending, with_awaiting}
use Rattle.transmitter.specs.Groups.{with_shown, with_channel}
use Rattle.transmitter.specs.Side.{has_error}
use Rattle.transmitter.specs.declared.side.Transmitter.{Transmitter}
use Rattle.words.specs.Codes.{codes_shown}
use Rattle.words.specs.declared.lines.Answer.{Answer}
use Rattle.sending.specs.Chart.{chart_of}
use Rattle.sending.specs.Choice.{code_of}
use Rattle.sending.specs.Events.{closed, succeeded, failed_to_send, was_rejected, met_busy, restarted, word_accepted, opening}
use Rattle.sending.specs.declared.chart.Entry.{Entry}
use Rattle.sending.specs.declared.choice.Choice.{Choice}

-- ---- sending

abbrev pub ending_now : Transmitter → Transmitter
ending_now t = with_channel t (with_ending t.channel true)

-- with the last CRC "T is ending until closed"; a due CRC is "sent and not yet answered 11"
abbrev pub after_sending : Transmitter → Choice → Transmitter
after_sending t Choice.Idle = t
after_sending t Choice.Opening = t
after_sending t Choice.Stopped = t
after_sending t Choice.LastCrc = ending_now t
after_sending t Choice.DueCrc = with_channel t (with_awaiting t.channel true)
after_sending t Choice.Word = t
after_sending t Choice.Null = t

-- "TSR bits 0 to 3 show the last own slice" in which T acts (reading 14), "are frozen by an error" that stood before it (reading 15)
abbrev pub showing : Transmitter → ℕ → ℕ → Transmitter
showing t a b = with_shown t (codes_shown t.end.shown (has_error t) a b)

-- ---- an open T

-- "Success sets SUC TXF at both ends (and SORE, RECOM if truncated)": SORE by R's truncation mark, which R tells (reading 27)
abbrev pub finished : Transmitter → Bool → Transmitter
finished t truncated = pick truncated (closed (succeeded (was_rejected t))) (closed (succeeded t))

-- "11 to a word removes it"; where it was the receiver's good verdict on a due CRC, "both counts restart" before it is counted
-- (reading 24)
abbrev pub word_heard : Transmitter → Bool → Transmitter
word_heard t restarts = pick restarts (word_accepted (restarted t)) (word_accepted t)

-- 11 to a word, and 11 to a CRC, which restarts T's CRC and count, and is no word accepted (reading 24)
abbrev pub acknowledged : Transmitter → Choice → Bool → Transmitter
acknowledged t Choice.Idle restarts = t
acknowledged t Choice.Opening restarts = t
acknowledged t Choice.Stopped restarts = t
acknowledged t Choice.LastCrc restarts = t
acknowledged t Choice.DueCrc restarts = restarted t
acknowledged t Choice.Word restarts = word_heard t restarts
acknowledged t Choice.Null restarts = t

-- the chart's entry; where it is stay, 11 is an acknowledgement
abbrev pub followed : Transmitter → Choice → Answer → Entry → Transmitter
followed t choice answer Entry.Close = closed t
followed t choice answer Entry.CloseWithError = closed (failed_to_send t)
followed t choice answer Entry.CloseWithSuccess = finished t answer.truncated
followed t choice answer Entry.Stay = pick (eqb answer.code 3) (acknowledged t choice answer.restarts) t

-- "Rules 6 and 7 come over it": rule 6, "T gets SORE and closes"; rule 7, "T becomes ending"
abbrev pub heard_open : Transmitter → Choice → Answer → Transmitter
heard_open t choice answer =
    pick answer.rejects (closed (was_rejected t))
    (pick answer.truncates (ending_now t)
    (followed t choice answer (chart_of (code_of choice) answer.code)))

-- ---- a closed T

-- "opens a closed T"; "Closed and 00: TBS BSY. But for TSR bits 0 to 3, a closed T is left unchanged by 01, by 10 and by rules 6 and 7".
-- Since document 02, No. 1, every receiver answers a closed T 00 or 11, so that the last sentence has no case left.
abbrev pub heard_closed : Transmitter → ℕ → Transmitter
heard_closed t b = pick (eqb b 3) (word_accepted (opening t)) (pick (eqb b 0) (met_busy t) t)

-- ---- any T

abbrev pub heard_acting : Transmitter → Choice → Answer → Transmitter
heard_acting t Choice.Idle answer = t
heard_acting t Choice.Opening answer = heard_closed t answer.code
heard_acting t Choice.Stopped answer = heard_open t Choice.Stopped answer
heard_acting t Choice.LastCrc answer = heard_open t Choice.LastCrc answer
heard_acting t Choice.DueCrc answer = heard_open t Choice.DueCrc answer
heard_acting t Choice.Word answer = heard_open t Choice.Word answer
heard_acting t Choice.Null answer = heard_open t Choice.Null answer

abbrev pub heard : Transmitter → Choice → Answer → Transmitter
heard t choice answer = settled (heard_acting (showing (after_sending t choice) (code_of choice) answer.code) choice answer)
