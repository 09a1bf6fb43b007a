-- The kind, a blank, and the number.
use Rattle.script.specs.Lines.{start}
use Rattle.script.proofs.Putting.{both}
use Rattle.script.proofs.text.Writer.start.Goals as goal

pub returns : goal.returns
unfolding start
returns c = both (both c.number.ensures c.byte.ensures) c.number-2.ensures
