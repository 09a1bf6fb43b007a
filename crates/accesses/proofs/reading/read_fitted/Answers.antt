-- At each return the tests that led there say which case of the rule holds.
use borrow.Author.Tests.{le-ltb, lt-ltb, ne_eqb}
use Rattle.laws.specs.Pick.{past, here}
use Rattle.accesses.proofs.reading.read_fitted.Goals as goal

pub returns-then-offset-lt-RCR-clause-answer : goal.returns-then-offset-lt-RCR-clause-answer
returns-then-offset-lt-RCR-clause-answer c = past _ (ne_eqb _ _ c.if-offset-eq-TMMR.false) (here _ (lt-ltb _ _ c.if-offset-lt-RCR.true) c.read_side.ensures.answer)

pub returns-clause-answer : goal.returns-clause-answer
returns-clause-answer c = past _ (ne_eqb _ _ c.if-offset-eq-TMMR.false) (past _ (le-ltb _ _ c.if-offset-lt-RCR.false) c.read_side-2.ensures.answer)
