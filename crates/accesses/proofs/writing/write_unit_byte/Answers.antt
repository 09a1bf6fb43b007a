-- The cells are lent to the fitted unit, and come back with what it left.
use Rattle.std.proofs.Common.{rules, arith, List, ℕ}
use Rattle.accesses.specs.Writing.{unit_byte_written}
use Rattle.accesses.specs.Laws.PutBack.{at_cells}
use Rattle.accesses.proofs.writing.write_unit_byte.Goals as goal

pub returns : goal.returns
returns c =
    let same = c.write_fitted_byte.ensures.same.cells in
    at_cells (λ (cells : List ℕ) (unit : ℕ). unit_byte_written cells unit c.args.offset c.args.byte) (grind (arith, same, c.new.ensures.cells) steps 40000000) (search rules) c.new.ensures.number
    c.write_fitted_byte.ensures.answer
