-- The cells are lent to the fitted unit, and come back with what it left.
use Rattle.std.proofs.Common.{rules, List, ℕ}
use Rattle.accesses.specs.Reading.{unit_read}
use Rattle.accesses.specs.Laws.PutBack.{at_cells}
use Rattle.accesses.proofs.reading.read_unit.Goals as goal

pub returns : goal.returns
returns c = at_cells (λ (cells : List ℕ) (unit : ℕ). unit_read cells unit c.args.offset) (search rules) (search rules) c.new.ensures.number c.read_fitted.ensures.answer
