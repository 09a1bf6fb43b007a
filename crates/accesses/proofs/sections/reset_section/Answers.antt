-- The section as it starts put back, and then who has MASTER.
use Rattle.std.proofs.Common.{refl}
use Rattle.cells.specs.Laws.HolderLaws.{holder_back}
use Rattle.accesses.proofs.sections.reset_section.Goals as goal

pub returns-clause-reset : goal.returns-clause-reset
returns-clause-reset c =
    rw (c.set_master.ensures, c.put.ensures.put, c.release-next.ensures.next, holder_back, c.init.ensures, c.side-section.ensures.value) refl
