-- The transmitter's half, and then the receiver put back as it starts, with its serial.
use Rattle.std.proofs.Common.{refl}
use Rattle.accesses.proofs.writing.reset_fitted.Goals as goal

pub returns-clause-reset : goal.returns-clause-reset
returns-clause-reset c =
    rw (c.put.ensures.put, c.reset_transmitter.ensures.same.number, c.reset_transmitter.ensures.reset, c.start.ensures, c.side-before.ensures.value) refl
