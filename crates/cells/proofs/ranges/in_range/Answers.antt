-- At each return the tests that led there decide the definition's, in its order.
use borrow.Author.Tests.{le-leb, lt-leb}
use Rattle.cells.specs.Ranges.{in_range}
use Rattle.cells.proofs.ranges.in_range.Goals as goal

pub returns-then-cells-lt-HEADER : goal.returns-then-cells-lt-HEADER
unfolding in_range
returns-then-cells-lt-HEADER c = rw (lt-leb _ _ c.if-cells-lt-HEADER.true)

pub returns-then-units-gt-UNITS : goal.returns-then-units-gt-UNITS
unfolding in_range
returns-then-units-gt-UNITS c =
    let e = c.count-units.ensures in
    rw (le-leb _ _ c.if-cells-lt-HEADER.false, lt-leb _ _ (rw e at c.if-units-gt-UNITS.true))

pub returns : goal.returns
unfolding in_range
returns c =
    let e = c.count-units.ensures in
    rw (le-leb _ _ c.if-cells-lt-HEADER.false, le-leb _ _ (rw e at c.if-units-gt-UNITS.false), e)
