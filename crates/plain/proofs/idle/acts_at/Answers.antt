-- The cells of the window say whether it acts (`acts_in_place`).
use mathlib.Core.Path.{◌∙◌}
use Rattle.std.proofs.Common.{add-zero}
use Rattle.plain.specs.Laws.IdleLaws.{acts_in_place}
use Rattle.plain.proofs.idle.acts_at.Goals as goal

pub returns : goal.returns
returns c = let a = c.args in rw c.load.ensures at c.acts_by.ensures ∙ simp add-zero at (acts_in_place a.cells.now a.unit)
