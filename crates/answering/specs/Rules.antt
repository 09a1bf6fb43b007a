-- Document 01, One slice: what R answers and does by each of its ten rules, and by that of document 02, No. 1.
-- Assumes nothing.
use Rattle.std.specs.Prelude.{true, false, ℕ}
use Rattle.ends.specs.declared.sides.Answered as sides
use Rattle.receiver.specs.declared.side.Receiver.{Receiver}
use Rattle.words.specs.Lines.{answered}
use Rattle.words.specs.declared.lines.Answer.{Answer}
use Rattle.words.specs.declared.lines.Sent.{Sent}
use Rattle.answering.specs.Choice.{decided}
use Rattle.answering.specs.Events.{showing, closed, parity_failed, transmission_failed, reject_completed, succeeded, word_stored, opening, crc_taken, restarted, truncated_now}
use Rattle.answering.specs.declared.choice.Rule.{Rule}

-- R after the slice, and its answer
abbrev pub Answered : Type 0
Answered = sides.Answered Receiver Answer

-- R after the slice, and the code B
abbrev pub answering : ℕ → Receiver → Answered
answering b r = record { side = r; answer = answered b }

-- Rule 1: "None, or open with another: B 00, no change."
-- Rule 2: "Closed: .. Else 00."
abbrev pub untouched : Receiver → Answered
untouched r = answering 0 r

-- Rule 2: "Closed: .. RCV WD, no ERR, room: opens, stores, 11." For an opening word alone (document 02, No. 1), with its serial (No. 6).
abbrev pub opens : Receiver → ℕ → Sent → Answered
opens r from sent = answering 3 (word_stored (opening (showing r sent.code 3) from sent.serial) sent)

-- Rule 3: "An error bit other than BC OFL: closes, 00."
abbrev pub faulted : Receiver → Sent → Answered
faulted r sent = answering 0 (closed (showing r sent.code 0))

-- Rule 4: "The word before had bad parity: PAR, closes, 10."
-- Rule 8: "Next time bad: PAR, closes, 10."
abbrev pub check_failed : Receiver → Sent → Answered
check_failed r sent = answering 2 (closed (parity_failed (showing r sent.code 2)))

-- Document 02, No. 1: "it sets TXM ERR, closes and gets 00". By an event, so that it makes a request also where the bit stands (reading
-- 11); RSR bits 0 to 3 show this slice, unless ERR stood before it (reading 15).
-- Rule 5: "A 00: TXM ERR, closes, 00."
abbrev pub broken_off : Receiver → Sent → Answered
broken_off r sent = answering 0 (closed (transmission_failed (showing r sent.code 0)))

-- Rule 6: "REJ without RCV DAT: RECOM, closes; T gets SORE and closes; B 01." What a closed T sends does not come to
-- this rule (document 02, No. 1).
abbrev pub rejects : Receiver → Sent → Answered
rejects r sent =
    record {
      side = closed (reject_completed (showing r sent.code 1));
      answer = record { code = 1; rejects = true; truncates = false; restarts = false; truncated = false };
    }

-- Rule 7: "truncation. T becomes ending, R is marked truncated until it closes, nothing is stored; B 01." What a closed
-- T sends does not come to this rule (document 02, No. 1).
abbrev pub truncates : Receiver → Sent → Answered
truncates r sent =
    record {
      side = truncated_now (showing r sent.code 1);
      answer = record { code = 1; rejects = false; truncates = true; restarts = false; truncated = false };
    }

-- Rule 8: "first time it is taken, 01."
abbrev pub takes_crc : Receiver → Sent → Answered
takes_crc r sent = answering 1 (crc_taken (showing r sent.code 1) sent)

-- Rule 8: "Good: for a due CRC 11 and both counts restart": T learns of it whatever it sent (reading 24)
abbrev pub restarts : Receiver → Sent → Answered
restarts r sent =
    record {
      side = restarted (showing r sent.code 3);
      answer = record { code = 3; rejects = false; truncates = false; restarts = true; truncated = false };
    }

-- Rule 8: "for A 11 .. else 11, success and R closes." T learns whether the message was truncated (reading 27).
abbrev pub succeeds : Receiver → Sent → Answered
succeeds r sent =
    record {
      side = closed (succeeded (showing r sent.code 3));
      answer = record { code = 3; rejects = false; truncates = false; restarts = false; truncated = r.channel.truncated };
    }

-- Rule 9: "A 10: stored with 11"
abbrev pub stores : Receiver → Sent → Answered
stores r sent = answering 3 (word_stored (showing r sent.code 3) sent)

-- Rule 8: "for A 11, 01 while words stand in the silo"
-- Rule 9: "else 01."
-- Rule 10: "A 01: 01."
abbrev pub waiting : Receiver → Sent → Answered
waiting r sent = answering 1 (showing r sent.code 1)

abbrev pub answered_as : Receiver → ℕ → Sent → Rule → Answered
answered_as r from sent Rule.Other = untouched r
answered_as r from sent Rule.Reopened = broken_off r sent
answered_as r from sent Rule.Opens = opens r from sent
answered_as r from sent Rule.Refuses = untouched r
answered_as r from sent Rule.Faulted = faulted r sent
answered_as r from sent Rule.BadParity = check_failed r sent
answered_as r from sent Rule.OffLine = broken_off r sent
answered_as r from sent Rule.Rejects = rejects r sent
answered_as r from sent Rule.Truncates = truncates r sent
answered_as r from sent Rule.TakesCrc = takes_crc r sent
answered_as r from sent Rule.BadCrc = check_failed r sent
answered_as r from sent Rule.Restarts = restarts r sent
answered_as r from sent Rule.Waits = waiting r sent
answered_as r from sent Rule.Succeeds = succeeds r sent
answered_as r from sent Rule.Stores = stores r sent
answered_as r from sent Rule.NotReady = waiting r sent
answered_as r from sent Rule.Null = waiting r sent

-- what the transmitter `from` has sent is answered by the first rule that fits
abbrev pub answered_by : Receiver → ℕ → Sent → Answered
answered_by r from sent = answered_as r from sent (decided r from sent)
