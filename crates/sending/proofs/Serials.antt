-- Document 02, No. 6: "a 16-bit serial that the transmitter side raises by one at each opening", "kept after closing". An opening word that
-- is answered 11 raises T's serial, and nothing else that T sends, and no other answer, touches it.
-- Assumes nothing.
use Rattle.std.specs.Prelude.{◌≡◌, refl}
use Rattle.ends.specs.Ends.{raised}
use Rattle.laws.specs.Pick.{pick}
use Rattle.transmitter.specs.declared.side.Transmitter.{Transmitter}
use Rattle.words.specs.declared.lines.Answer.{Answer}
use Rattle.sending.specs.Hearing.{after_sending, heard, showing}
use Rattle.sending.specs.declared.choice.Choice.{Choice}
use Rattle.sending.specs.Laws.SerialKept.{hears_closed, hears_open}
use Rattle.sending.specs.Serials.{opens_by}

pub only_opening : (t : Transmitter) (choice : Choice) (answer : Answer)
    → (heard t choice answer).end.serial ≡ pick (opens_by choice answer) (raised t.end.serial) t.end.serial
only_opening t Choice.Idle answer = refl
only_opening t Choice.Opening answer = hears_closed t answer
only_opening t Choice.Stopped answer = hears_open t Choice.Stopped answer (showing t 0 answer.code) refl
only_opening t Choice.LastCrc answer = hears_open t Choice.LastCrc answer (showing (after_sending t Choice.LastCrc) 3 answer.code) refl
only_opening t Choice.DueCrc answer = hears_open t Choice.DueCrc answer (showing (after_sending t Choice.DueCrc) 2 answer.code) refl
only_opening t Choice.Word answer = hears_open t Choice.Word answer (showing t 2 answer.code) refl
only_opening t Choice.Null answer = hears_open t Choice.Null answer (showing t 1 answer.code) refl
