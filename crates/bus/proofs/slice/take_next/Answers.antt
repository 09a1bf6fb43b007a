-- A section that went on stays within its values.
use Rattle.master.specs.Laws.Laws.{within_next}
use Rattle.bus.proofs.slice.take_next.Goals as goal

pub put_next-requires : goal.put_next-requires
put_next-requires c = (c.requires, rw c.next_address-next.ensures (within_next _ c.side-section.ensures.within))
