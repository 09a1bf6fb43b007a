-- The start, the value, and the end of the line.
use Rattle.std.proofs.Common.{arith}
use Rattle.script.specs.Lines.{value_line}
use Rattle.script.proofs.Putting.{both, at_most}
use Rattle.script.proofs.text.Writer.value_line.Goals as goal

pub returns : goal.returns
unfolding value_line
returns c = at_most 32 (omega arith) (both (both c.start.ensures c.added.ensures) c.byte.ensures)
