-- The start, a blank, the address, and the end of the line.
use Rattle.std.proofs.Common.{arith}
use Rattle.script.specs.Lines.{missing_line}
use Rattle.script.proofs.Putting.{both, at_most}
use Rattle.script.proofs.text.Writer.missing_line.Goals as goal

pub returns : goal.returns
unfolding missing_line
returns c = at_most 32 (omega arith) (both (both (both c.start.ensures c.byte.ensures) c.long_number.ensures) c.byte-2.ensures)
