-- The record of a transmitter with one group changed.
-- Assumes nothing.
use Rattle.std.specs.Prelude.{Bool}
use Rattle.ends.specs.Ends as E
use Rattle.ends.specs.declared.End.{End}
use Rattle.silos.specs.declared.Silo.{Silo}
use Rattle.words.specs.declared.codes.Codes.{Codes}
use Rattle.words.specs.declared.load.Load.{Load}
use Rattle.transmitter.specs.declared.side.Channel.{Channel}
use Rattle.transmitter.specs.declared.side.Commands.{Commands}
use Rattle.transmitter.specs.declared.side.Faults.{Faults}
use Rattle.transmitter.specs.declared.side.Modes.{Modes}
use Rattle.transmitter.specs.declared.side.Outcome.{Outcome}
use Rattle.transmitter.specs.declared.side.Transmitter.{Transmitter}

abbrev pub with_end : Transmitter → End → Transmitter
with_end t x = record { end = x; commands = t.commands; modes = t.modes; faults = t.faults; outcome = t.outcome; channel = t.channel }

abbrev pub with_commands : Transmitter → Commands → Transmitter
with_commands t x = record { end = t.end; commands = x; modes = t.modes; faults = t.faults; outcome = t.outcome; channel = t.channel }

abbrev pub with_modes : Transmitter → Modes → Transmitter
with_modes t x = record { end = t.end; commands = t.commands; modes = x; faults = t.faults; outcome = t.outcome; channel = t.channel }

abbrev pub with_faults : Transmitter → Faults → Transmitter
with_faults t x = record { end = t.end; commands = t.commands; modes = t.modes; faults = x; outcome = t.outcome; channel = t.channel }

abbrev pub with_outcome : Transmitter → Outcome → Transmitter
with_outcome t x = record { end = t.end; commands = t.commands; modes = t.modes; faults = t.faults; outcome = x; channel = t.channel }

abbrev pub with_channel : Transmitter → Channel → Transmitter
with_channel t x = record { end = t.end; commands = t.commands; modes = t.modes; faults = t.faults; outcome = t.outcome; channel = x }

abbrev pub with_silo : Transmitter → Silo → Transmitter
with_silo t x = with_end t (E.with_silo t.end x)

abbrev pub with_load : Transmitter → Load → Transmitter
with_load t x = with_end t (E.with_load t.end x)

abbrev pub with_shown : Transmitter → Codes → Transmitter
with_shown t x = with_end t (E.with_shown t.end x)

abbrev pub with_mark : Transmitter → Bool → Transmitter
with_mark t x = with_end t (E.with_mark t.end x)
