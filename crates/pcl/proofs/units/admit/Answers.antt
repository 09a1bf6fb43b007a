-- A state in range has its header, and room for each unit that it counts.
use Rattle.std.proofs.Common.{ap, not}
use borrow.Author.Tests.{not-false}
use Rattle.cells.specs.Laws.RangeLaws.{in_range_says, fitted}
use Rattle.pcl.proofs.units.admit.Goals as goal

pub count-requires : goal.count-requires
count-requires c = (in_range_says c.args.cells.now (not-false _ (rw c.in_range.ensures at (ap not c.if-not-in_range.false)))).header

pub returns-clause-fitted : goal.returns-clause-fitted
returns-clause-fitted c =
    fitted c.args.cells.now (not-false _ (rw c.in_range.ensures at (ap not c.if-not-in_range.false))) c.args.unit
    (rw c.count.ensures at c.if-unit-count.false)
