-- Document 02, No. 6: "copied to the receiver with the opening word and kept after closing". Of R's rules the opening takes the serial, and
-- no other touches it.
-- Assumes nothing.
use Rattle.std.specs.Prelude.{Bool, true, false}
use Rattle.answering.specs.declared.choice.Rule.{Rule}

-- rule 2, where R opens
abbrev pub opens_by : Rule → Bool
opens_by Rule.Other = false
opens_by Rule.Reopened = false
opens_by Rule.Opens = true
opens_by Rule.Refuses = false
opens_by Rule.Faulted = false
opens_by Rule.BadParity = false
opens_by Rule.OffLine = false
opens_by Rule.Rejects = false
opens_by Rule.Truncates = false
opens_by Rule.TakesCrc = false
opens_by Rule.BadCrc = false
opens_by Rule.Restarts = false
opens_by Rule.Waits = false
opens_by Rule.Succeeds = false
opens_by Rule.Stores = false
opens_by Rule.NotReady = false
opens_by Rule.Null = false
