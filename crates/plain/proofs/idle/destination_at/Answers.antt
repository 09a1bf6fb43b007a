-- The cells of the window say whom it addresses (`addressed_in_place`).
use mathlib.Core.Path.{◌∙◌}
use Rattle.plain.specs.Laws.IdleLaws.{addressed_in_place}
use Rattle.plain.proofs.idle.destination_at.Goals as goal

pub returns : goal.returns
returns c = let a = c.args in rw c.load.ensures at c.addressed_by.ensures ∙ addressed_in_place a.cells.now a.unit
