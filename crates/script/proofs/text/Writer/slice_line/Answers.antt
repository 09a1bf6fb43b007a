-- The start, three values, and the end of the line.
use Rattle.std.proofs.Common.{arith}
use Rattle.script.specs.Lines.{slice_line}
use Rattle.script.proofs.Putting.{both, at_most}
use Rattle.script.proofs.text.Writer.slice_line.Goals as goal

pub returns : goal.returns
unfolding slice_line
returns c = at_most 32 (omega arith) (both (both (both (both c.start.ensures c.added.ensures) c.added-2.ensures) c.added-3.ensures) c.byte.ensures)
