-- A section that is written stays within its values.
use Rattle.master.specs.Laws.Laws.{within_loaded}
use Rattle.accesses.proofs.sections.write_section_low.Goals as goal

pub store_section-requires : goal.store_section-requires
store_section-requires c = rw c.write_low-written.ensures (within_loaded _ c.side-section.ensures.within _ c.args.byte)
