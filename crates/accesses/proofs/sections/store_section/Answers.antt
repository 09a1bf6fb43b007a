-- The section put back, and then who has MASTER.
use Rattle.std.proofs.Common.{refl}
use Rattle.cells.specs.Laws.HolderLaws.{holder_back}
use Rattle.accesses.proofs.sections.store_section.Goals as goal

pub returns-clause-answer : goal.returns-clause-answer
returns-clause-answer c = rw (c.set_master.ensures, c.put.ensures.put, c.next_holder-next.ensures.next, holder_back) refl
