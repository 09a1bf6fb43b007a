-- Whatever the cells hold, what is read is within its values.
use Rattle.codec.proofs.Laws.ReceiverLaws.{within_receiver}
use Rattle.codec.proofs.receivers.ReceiverInWindow.decode.Goals as goal

pub returns-clause-within : goal.returns-clause-within
returns-clause-within c = rw (c.channel_of.ensures, c.outcome_in.ensures, c.faults_in.ensures, c.modes_in.ensures, c.commands_in.ensures, c.end_in.ensures, c.bit_at.ensures, c.bit_at-opened.ensures) (within_receiver c.args.cells.now c.requires)
