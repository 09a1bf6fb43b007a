-- Document 01, One slice: what can happen to T in its slice.
-- Assumes nothing.
use Rattle.std.specs.Prelude.{true, false, ℕ}
use Rattle.ends.specs.Ends as E
use Rattle.laws.specs.Pick.{pick}
use Rattle.silos.specs.Silo.{oldest, taken}
use Rattle.transmitter.specs.Fields.{with_transmission_error, with_bus_busy, with_software_reject, with_success, with_ending, with_awaiting}
use Rattle.transmitter.specs.Groups.{with_end, with_shown, with_faults, with_outcome, with_channel}
use Rattle.transmitter.specs.Requests.{requested}
use Rattle.transmitter.specs.declared.side.Channel.{Channel}
use Rattle.transmitter.specs.declared.side.Transmitter.{Transmitter}
use Rattle.words.specs.Codes.{no_codes}

-- T closes; "T is ending until closed". Nothing else changes: neither ST TXM nor SND WD, no silo, no load, no CRC (reading 27;
-- docs/DECISIONS.md, "What closing leaves in T").
abbrev pub closed : Transmitter → Transmitter
closed t = with_channel (with_end t (E.with_opened t.end false)) (with_ending t.channel false)

-- SUC TXF, with its request, also where it stands (reading 11); TSR bits 0 to 3 are "cleared by SUC TXF" (reading 16)
abbrev pub succeeded : Transmitter → Transmitter
succeeded t = requested (with_shown (with_outcome t (with_success t.outcome true)) no_codes)

-- TXM ERR, with its request
abbrev pub failed_to_send : Transmitter → Transmitter
failed_to_send t = requested (with_faults t (with_transmission_error t.faults true))

-- SORE, with its request
abbrev pub was_rejected : Transmitter → Transmitter
was_rejected t = requested (with_outcome t (with_software_reject t.outcome true))

-- TBS BSY, which makes a request "with RIB clear"
abbrev bus_busy : Transmitter → Transmitter
bus_busy t = with_outcome t (with_bus_busy t.outcome true)

abbrev pub met_busy : Transmitter → Transmitter
met_busy t = pick t.modes.retry_if_busy (bus_busy t) (requested (bus_busy t))

-- "both counts restart", and the CRC; no verdict is awaited (reading 24)
abbrev pub restarted : Transmitter → Transmitter
restarted t = with_channel (with_end t (E.restarted t.end)) (with_awaiting t.channel false)

-- "11 to a word removes it"; it is counted
abbrev pub counted : Transmitter → Transmitter
counted t = with_end t (E.counted (E.with_silo t.end (taken t.end.silo)) (oldest t.end.silo))

-- "and, if ST TXM is clear, sets SUC TXF" (docs/DECISIONS.md, "SUC TXF by a single word clears the codes too")
abbrev pub word_accepted : Transmitter → Transmitter
word_accepted t = pick t.commands.start_transmission (counted t) (succeeded (counted t))

-- "opens a closed T"; "The destination is latched at opening" (reading 29); "Opening clears TBS BSY"; "At opening each end starts CRC,
-- count of 128 and verdict .. afresh"; "a 16-bit serial that the transmitter side raises by one at each opening" (document 02, No. 6)
abbrev open_to : ℕ → Channel
open_to destination = record { ending = false; awaiting = false; destination = destination }

abbrev pub opening : Transmitter → Transmitter
opening t =
    with_outcome (with_channel (with_end t (E.opening t.end (E.raised t.end.serial))) (open_to t.modes.destination))
    (with_bus_busy t.outcome false)
