-- Document 02, No. 6: "a 16-bit serial that the transmitter side raises by one at each opening", "kept after closing". An opening word that
-- is answered 11 raises T's serial, and nothing else that T sends, and no other answer, touches it.
-- Assumes nothing.
use Rattle.std.specs.Prelude.{Bool, ◌&&◌, eqb}
use Rattle.words.specs.declared.lines.Answer.{Answer}
use Rattle.sending.specs.Choice.{is_opening}
use Rattle.sending.specs.declared.choice.Choice.{Choice}

-- T opens by 11 to its opening word
abbrev pub opens_by : Choice → Answer → Bool
opens_by choice answer = is_opening choice && eqb answer.code 3
