-- Document 01, One slice: "The receiver R addressed, first that fits"; and what document 02, No. 1, puts in place of two of its sentences.
-- Assumes nothing.
use Rattle.std.specs.Prelude.{Bool, true, false, not, ◌&&◌, ◌||◌, ℕ, eqb}
use Rattle.laws.specs.Pick.{pick}
use Rattle.receiver.specs.Side.{has_error, data_in_ready, data_out_ready}
use Rattle.receiver.specs.declared.side.Faults.{Faults}
use Rattle.receiver.specs.declared.side.Receiver.{Receiver}
use Rattle.words.specs.declared.lines.Sent.{Sent}
use Rattle.answering.specs.declared.choice.Rule.{Rule}

-- Rule 1: "None, or open with another". That there is none is seen where the receiver is looked for.
abbrev pub open_with_another : Receiver → ℕ → Bool
open_with_another r from = r.end.opened && not (eqb r.modes.sender from)

-- Document 02, No. 1: "An opening word .. At a receiver open with that same transmitter". Where R is open with another, rule 1 has answered
-- before. For such a word this rule stands in place of document 01's rules 3 to 10.
abbrev pub reopening : Receiver → Sent → Bool
reopening r sent = r.end.opened && sent.opening

-- Rule 2: "Closed: A 10, RCV WD, no ERR, room: opens .. Else 00." Document 02, No. 1, replaces its A 10: "a closed receiver answers 00 to
-- anything but an opening word, a CRC included". What has the mark is sent with A 10 (`sending`, `code_of`), so that A is not asked beside
-- it.
abbrev pub may_open : Receiver → Sent → Bool
may_open r sent = sent.opening && r.commands.receive_word && not (has_error r) && data_in_ready r

abbrev pub decided_closed : Receiver → Sent → Rule
decided_closed r sent = pick (may_open r sent) Rule.Opens Rule.Refuses

-- Rule 3: "An error bit other than BC OFL". Whatever set it, R closes by it only here (reading 28).
abbrev pub closing_fault : Faults → Bool
closing_fault f = f.time_out || f.parity || f.transmission_error || f.memory_overflow || f.nonexistent_location

-- Rule 6: "REJ without RCV DAT", as the bits are, also after a truncation (reading 26)
abbrev pub rejecting : Receiver → Bool
rejecting r = r.modes.reject && not r.commands.receive_data

-- Rule 7: "REJ with RCV DAT, A not 11, no verdict owed", again and again while REJ stands (reading 26)
abbrev pub truncating : Receiver → Sent → Bool
truncating r sent = r.modes.reject && r.commands.receive_data && not (eqb sent.code 3) && not r.channel.owed

-- Rule 8: "first time it is taken .. Next time bad .. Good: for a due CRC .. for A 11, 01 while words stand in the silo, else .. success ..
-- A truncated message doesn't wait for the silo." One mark says that a verdict is owed, on a CRC of either kind, and neither RCV DAT nor
-- RCV WD is asked (reading 25).
abbrev pub decided_crc : Receiver → Bool → Rule
decided_crc r due =
    pick (not r.channel.owed) Rule.TakesCrc
    (pick (not r.channel.good) Rule.BadCrc
    (pick due Rule.Restarts (pick (data_out_ready r && not r.channel.truncated) Rule.Waits Rule.Succeeds)))

-- Rule 9: "stored with 11 if RCV DAT or RCV WD and room; else 01"
abbrev pub decided_word : Receiver → Rule
decided_word r = pick ((r.commands.receive_data || r.commands.receive_word) && data_in_ready r) Rule.Stores Rule.NotReady

-- Rules 8 to 10, by the code A. Rule 8: "A 11, or a due CRC (A 10 with R's own count at 128)"; rule 9: "A 10"; rule 10: "A 01". By its own
-- count R tells a CRC from a word, whatever T meant (reading 22).
abbrev pub decided_by_code : Receiver → Sent → Rule
decided_by_code r sent =
    pick (eqb sent.code 3) (decided_crc r false)
    (pick (eqb sent.code 2) (pick (eqb r.end.block 128) (decided_crc r true) (decided_word r)) Rule.Null)

-- Rules 3 to 10. Rule 4: "The word before had bad parity"; rule 5: "A 00"
abbrev pub decided_open : Receiver → Sent → Rule
decided_open r sent =
    pick (closing_fault r.faults) Rule.Faulted
    (pick r.channel.bad_parity Rule.BadParity
    (pick (eqb sent.code 0) Rule.OffLine
    (pick (rejecting r) Rule.Rejects (pick (truncating r sent) Rule.Truncates (decided_by_code r sent)))))

-- Rule 1; document 02, No. 1, "ahead of rule 3"; rule 2; or the others
abbrev pub decided : Receiver → ℕ → Sent → Rule
decided r from sent =
    pick (open_with_another r from) Rule.Other
    (pick (reopening r sent) Rule.Reopened (pick (not r.end.opened) (decided_closed r sent) (decided_open r sent)))
