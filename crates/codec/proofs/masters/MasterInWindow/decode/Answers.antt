-- Whatever the cells hold, what is read is within its values.
use Rattle.codec.proofs.Laws.MasterLaws.{within_master}
use Rattle.codec.proofs.masters.MasterInWindow.decode.Goals as goal

pub returns-clause-within : goal.returns-clause-within
returns-clause-within c = rw (c.section_of.ensures, c.addresses_in.ensures) (within_master c.args.cells.now c.requires)
