-- The section, and then the transmitter put back as it starts, with its serial.
use Rattle.std.proofs.Common.{refl}
use Rattle.accesses.proofs.writing.reset_transmitter.Goals as goal

pub returns-clause-reset : goal.returns-clause-reset
returns-clause-reset c =
    rw (c.put.ensures.put, c.reset_section.ensures.same.number, c.reset_section.ensures.reset, c.start.ensures, c.side-before.ensures.value) refl
