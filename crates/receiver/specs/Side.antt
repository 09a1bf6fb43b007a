-- The record of a receiver: the values its numbers may take, its initial state, and the bits that are computed from it.
-- Assumes nothing.
use Rattle.std.specs.Prelude.{Bool, true, false, not, ◌||◌, ◌≡◌, ℕ, ◌<◌}
use Rattle.ends.specs.Ends as E
use Rattle.ends.specs.Ends.{no_end}
use Rattle.silos.specs.Silo.{is_empty, has_room}
use Rattle.receiver.specs.declared.side.Channel.{Channel}
use Rattle.receiver.specs.declared.side.Commands.{Commands}
use Rattle.receiver.specs.declared.side.Faults.{Faults}
use Rattle.receiver.specs.declared.side.Modes.{Modes}
use Rattle.receiver.specs.declared.side.Outcome.{Outcome}
use Rattle.receiver.specs.declared.side.Receiver.{Receiver}

-- the values each number may take: addresses are 0 to 31; "R is marked truncated until it closes"; and the period's mark stands only at a
-- receiver that is open, since "not being busy, clears it"
pub record Within (r : Receiver) : Type 0 where
  pub end : E.Within r.end
  pub sender : r.modes.sender < 32
  pub truncated : r.channel.truncated ≡ true → r.end.opened ≡ true
  pub marked : r.end.mark ≡ true → r.end.opened ≡ true

-- ---- "Fit gives every side its initial state": RC INIT gives the same (reading 10), but for the serial (document 02, No. 6)

abbrev pub no_commands : Commands
no_commands = record { receive_data = false; receive_word = false }

abbrev pub no_modes : Modes
no_modes =
    record { inhibit_increment = false; interrupt_enable = false; load_silo = false; memory_requests = false; reject = false; sender = 0 }

abbrev pub no_faults : Faults
no_faults =
    record {
      byte_count_overflow = false;
      time_out = false;
      parity = false;
      transmission_error = false;
      memory_overflow = false;
      nonexistent_location = false;
    }

abbrev pub no_outcome : Outcome
no_outcome = record { reject_complete = false; success = false }

abbrev pub no_channel : Channel
no_channel = record { owed = false; good = false; bad_parity = false; truncated = false }

abbrev pub initial : ℕ → Receiver
initial serial =
    record {
      end = no_end serial;
      commands = no_commands;
      modes = no_modes;
      faults = no_faults;
      outcome = no_outcome;
      channel = no_channel;
    }

-- RC INIT and reset: document 02, No. 6, "kept after closing. Only a new fit resets it"
abbrev pub initialised : Receiver → Receiver
initialised r = initial r.end.serial

-- ---- computed bits

-- BUSY: RCV WD or CHN OPN (reading 5)
abbrev pub is_busy : Receiver → Bool
is_busy r = r.commands.receive_word || r.end.opened

-- "ERR is the or of the register's error bits."
abbrev pub any_fault : Faults → Bool
any_fault f = f.byte_count_overflow || f.time_out || f.parity || f.transmission_error || f.memory_overflow || f.nonexistent_location

abbrev pub has_error : Receiver → Bool
has_error r = any_fault r.faults

-- DTIRDY: the silo has room (reading 3)
abbrev pub data_in_ready : Receiver → Bool
data_in_ready r = has_room 64 r.end.silo

-- DTORDY: a word is held (reading 3)
abbrev pub data_out_ready : Receiver → Bool
data_out_ready r = not (is_empty r.end.silo)
