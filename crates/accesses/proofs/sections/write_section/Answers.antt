-- A section that is written stays within its values.
use Rattle.master.specs.Laws.Laws.{within_word}
use Rattle.accesses.proofs.sections.write_section.Goals as goal

pub store_section-requires : goal.store_section-requires
store_section-requires c =
    rw c.write_word-written.ensures (within_word _ c.side-section.ensures.within c.mastership-mastership.result _ c.args.word)
