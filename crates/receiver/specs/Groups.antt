-- The record of a receiver with one group changed.
-- Assumes nothing.
use Rattle.std.specs.Prelude.{Bool}
use Rattle.ends.specs.Ends as E
use Rattle.ends.specs.declared.End.{End}
use Rattle.silos.specs.declared.Silo.{Silo}
use Rattle.words.specs.declared.codes.Codes.{Codes}
use Rattle.words.specs.declared.load.Load.{Load}
use Rattle.receiver.specs.declared.side.Channel.{Channel}
use Rattle.receiver.specs.declared.side.Commands.{Commands}
use Rattle.receiver.specs.declared.side.Faults.{Faults}
use Rattle.receiver.specs.declared.side.Modes.{Modes}
use Rattle.receiver.specs.declared.side.Outcome.{Outcome}
use Rattle.receiver.specs.declared.side.Receiver.{Receiver}

abbrev pub with_end : Receiver → End → Receiver
with_end r x = record { end = x; commands = r.commands; modes = r.modes; faults = r.faults; outcome = r.outcome; channel = r.channel }

abbrev pub with_commands : Receiver → Commands → Receiver
with_commands r x = record { end = r.end; commands = x; modes = r.modes; faults = r.faults; outcome = r.outcome; channel = r.channel }

abbrev pub with_modes : Receiver → Modes → Receiver
with_modes r x = record { end = r.end; commands = r.commands; modes = x; faults = r.faults; outcome = r.outcome; channel = r.channel }

abbrev pub with_faults : Receiver → Faults → Receiver
with_faults r x = record { end = r.end; commands = r.commands; modes = r.modes; faults = x; outcome = r.outcome; channel = r.channel }

abbrev pub with_outcome : Receiver → Outcome → Receiver
with_outcome r x = record { end = r.end; commands = r.commands; modes = r.modes; faults = r.faults; outcome = x; channel = r.channel }

abbrev pub with_channel : Receiver → Channel → Receiver
with_channel r x = record { end = r.end; commands = r.commands; modes = r.modes; faults = r.faults; outcome = r.outcome; channel = x }

abbrev pub with_silo : Receiver → Silo → Receiver
with_silo r x = with_end r (E.with_silo r.end x)

abbrev pub with_load : Receiver → Load → Receiver
with_load r x = with_end r (E.with_load r.end x)

abbrev pub with_shown : Receiver → Codes → Receiver
with_shown r x = with_end r (E.with_shown r.end x)

abbrev pub with_mark : Receiver → Bool → Receiver
with_mark r x = with_end r (E.with_mark r.end x)
