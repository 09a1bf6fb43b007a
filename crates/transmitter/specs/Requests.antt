-- Document 01, Registers: requests, and the interrupt level.
-- Assumes nothing.
use Rattle.std.specs.Prelude.{Bool, not, ◌&&◌, ◌||◌}
use Rattle.transmitter.specs.Groups.{with_commands, with_faults, with_mark}
use Rattle.transmitter.specs.Side.{no_commands, is_busy, has_error}
use Rattle.transmitter.specs.declared.side.Faults.{Faults}
use Rattle.transmitter.specs.declared.side.Transmitter.{Transmitter}

-- "makes a request and clears ST TXM and SND WD"
abbrev pub requested : Transmitter → Transmitter
requested t = with_commands t no_commands

-- Memory moves and periods: "not being busy, clears it", the period's mark, at the end of any call that leaves T not BUSY (reading 31)
abbrev pub settled : Transmitter → Transmitter
settled t = with_mark t (t.end.mark && is_busy t)

-- an event that sets ERR: it makes a request each time, also where ERR stands (reading 11)
abbrev pub failed : Transmitter → Faults → Transmitter
failed t faults = settled (requested (with_faults t faults))

-- "Interrupt level is IE and one of those bits standing": ERR, SUC TXF, SORE, or TBS BSY with RIB clear. Clearing RIB
-- while TBS BSY stands raises the level and makes no request (reading 12).
abbrev pub level_of : Transmitter → Bool
level_of t =
    t.modes.interrupt_enable
    && (has_error t || t.outcome.success || t.outcome.software_reject || (t.outcome.bus_busy && not t.modes.retry_if_busy))
