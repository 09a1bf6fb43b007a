-- Document 01, Registers: requests, and the interrupt level.
-- Assumes nothing.
use Rattle.std.specs.Prelude.{Bool, not, ◌&&◌, ◌||◌}
use Rattle.receiver.specs.Groups.{with_commands, with_faults, with_mark}
use Rattle.receiver.specs.Side.{no_commands, has_error, data_out_ready}
use Rattle.receiver.specs.declared.side.Faults.{Faults}
use Rattle.receiver.specs.declared.side.Receiver.{Receiver}

-- "it clears RCV WD and RCV DAT"; RCV WD falls by this, by closing, by a write and by RC INIT alone (reading 12)
abbrev pub requested : Receiver → Receiver
requested r = with_commands r no_commands

-- Memory moves and periods: "not being busy, clears it", the period's mark, at the end of any call that leaves R not open (reading 31)
abbrev pub settled : Receiver → Receiver
settled r = with_mark r (r.end.mark && r.end.opened)

-- an event that sets ERR: it makes a request each time, also where ERR stands (reading 11)
abbrev pub failed : Receiver → Faults → Receiver
failed r faults = settled (requested (with_faults r faults))

-- "Interrupt level is IE and one of those bits standing (for the last: DAT O RDY with RC NPR clear)": ERR, SUC TXF, RECOM, or that one,
-- whatever RCV DAT is (reading 13)
abbrev pub level_of : Receiver → Bool
level_of r =
    r.modes.interrupt_enable
    && (has_error r || r.outcome.success || r.outcome.reject_complete || (data_out_ready r && not r.modes.memory_requests))
