-- A section that is read stays within its values.
use Rattle.master.specs.Laws.Laws.{within_removed}
use Rattle.accesses.proofs.sections.read_section.Goals as goal

pub put-requires : goal.put-requires
put-requires c = rw c.read-reading.ensures (within_removed _ c.side-section.ensures.within c.side-t.result.modes.read_silo)
