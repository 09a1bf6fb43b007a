-- Refused by its admission, for want of memory or of a side; or the move at the side that is named.
use Rattle.std.proofs.Common.{ap, refl}
use borrow.Author.Tests.{lt-ltb, le-ltb}
use Rattle.laws.specs.Pick.{past, here}
use Rattle.pcl.specs.Sides.{sent_by, received_by}
use Rattle.pcl.specs.Laws.Admitted.{refused_move, goes_on}
use Rattle.pcl.specs.Laws.Named.{transmits, receives, neither}
use Rattle.pcl.proofs.sides.move_word.Goals as goal

pub returns-in_err-admit : goal.returns-in_err-admit
returns-in_err-admit c = refused_move c.args.cells.now c.args.unit c.args.memory.now _ _ _ c.from_residual.ensures c.in_err-admit.ensures.answer

pub returns-then-memory-memory_length : goal.returns-then-memory-memory_length
returns-then-memory-memory_length c =
    goes_on c.args.cells.now c.args.unit _ _ _ _ _ c.in_ok-admit.ensures.answer
    (here _ (lt-ltb _ _ (rw c.memory_length.ensures at c.if-memory-memory_length.true)) refl)

pub returns-in_err-try_from : goal.returns-in_err-try_from
returns-in_err-try_from c =
    goes_on c.args.cells.now c.args.unit _ _ _ _ _ c.in_ok-admit.ensures.answer
    (past _ (le-ltb _ _ (rw c.memory_length.ensures at c.if-memory-memory_length.false))
    (neither c.args.side c.args.cells.now c.args.memory.now _ _ _ _ c.from_residual-in_err-try_from.ensures c.in_err-try_from.ensures))

pub returns-in-Transmitter : goal.returns-in-Transmitter
returns-in-Transmitter c =
    goes_on c.args.cells.now c.args.unit _ _ _ _ _ c.in_ok-admit.ensures.answer
    (past _ (le-ltb _ _ (rw c.memory_length.ensures at c.if-memory-memory_length.false))
    (transmits c.args.side _ _ _ _ _ c.in_ok-try_from.ensures c.in-Transmitter.is (ap (sent_by c.args.memory.now) c.move_transmitter.ensures)))

pub returns-in-Receiver : goal.returns-in-Receiver
returns-in-Receiver c =
    goes_on c.args.cells.now c.args.unit _ _ _ _ _ c.in_ok-admit.ensures.answer
    (past _ (le-ltb _ _ (rw c.memory_length.ensures at c.if-memory-memory_length.false))
    (receives c.args.side _ _ _ _ _ c.in_ok-try_from.ensures c.in-Receiver.is (ap received_by c.move_receiver.ensures)))
