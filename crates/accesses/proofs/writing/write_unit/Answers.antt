-- The cells are lent to the fitted unit, and come back with what it left.
use Rattle.std.proofs.Common.{rules, List, ℕ}
use Rattle.accesses.specs.Writing.{unit_written}
use Rattle.accesses.specs.Laws.PutBack.{at_cells}
use Rattle.accesses.proofs.writing.write_unit.Goals as goal

pub returns : goal.returns
returns c = at_cells (λ (cells : List ℕ) (unit : ℕ). unit_written cells unit c.args.offset c.args.word) (search rules) (search rules) c.new.ensures.number c.write_fitted.ensures.answer
