-- Whatever the cells hold, what is read is within its values.
use Rattle.codec.proofs.Laws.TransmitterLaws.{within_transmitter}
use Rattle.codec.proofs.transmitters.TransmitterInWindow.decode.Goals as goal

pub returns-clause-within : goal.returns-clause-within
returns-clause-within c = rw (c.channel_of.ensures, c.outcome_in.ensures, c.faults_in.ensures, c.modes_in.ensures, c.end_in-end.ensures, c.commands_in-commands.ensures, c.bit_at.ensures, c.bit_at-opened.ensures) (within_transmitter c.args.cells.now c.requires)
