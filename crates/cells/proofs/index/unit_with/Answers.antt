-- The entry is a unit that the header counts, or there is none.
use borrow.Author.Tests.{lt-ltb}
use native.Mathlib.Omega.{arith}
use Rattle.cells.specs.Laws.RangeLaws.{in_range_says, fitted}
use Rattle.cells.specs.Laws.SearchLaws.{named_unit}
use Rattle.cells.proofs.index.unit_with.Goals as goal

pub cell_at-unit-requires : goal.cell_at-unit-requires
cell_at-unit-requires c = omega (arith, c.requires.k_bound, (in_range_says c.args.cells.now c.requires.cells_value).header)

pub count-requires : goal.count-requires
count-requires c = (in_range_says c.args.cells.now c.requires.cells_value).header

pub returns-then-unit-count-clause-unit : goal.returns-then-unit-count-clause-unit
returns-then-unit-count-clause-unit c =
    let most = (in_range_says c.args.cells.now c.requires.cells_value).most in
    rw (← c.cell_at-unit.ensures.0, ← c.count.ensures, lt-ltb _ _ c.if-unit-count.true) (named_unit c.cell_at-unit.result (omega (arith, c.count.ensures)))

pub returns-then-unit-count-clause-fitted : goal.returns-then-unit-count-clause-fitted
returns-then-unit-count-clause-fitted c = fitted c.args.cells.now c.requires.cells_value _ (omega (arith, c.if-unit-count.true, c.count.ensures))
