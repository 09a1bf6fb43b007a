-- The cells are lent to the fitted unit, and come back with what it left.
use Rattle.std.proofs.Common.{rules}
use Rattle.accesses.specs.Writing.{unit_reset}
use Rattle.accesses.specs.Laws.PutBack.{left_at_cells}
use Rattle.accesses.proofs.writing.reset_unit.Goals as goal

pub returns : goal.returns
returns c = left_at_cells unit_reset (search rules) (search rules) c.new.ensures.number c.reset_fitted.ensures.reset
