-- The start, and the end of the line.
use Rattle.std.proofs.Common.{arith}
use Rattle.script.specs.Lines.{plain_line}
use Rattle.script.proofs.Putting.{both, at_most}
use Rattle.script.proofs.text.Writer.plain_line.Goals as goal

pub returns : goal.returns
unfolding plain_line
returns c = at_most 32 (omega arith) (both c.start.ensures c.byte.ensures)
