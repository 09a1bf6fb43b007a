-- The record of a transmitter: the values its numbers may take, its initial state, and the bits that are computed from it.
-- Assumes nothing.
use Rattle.std.specs.Prelude.{Bool, true, false, not, ◌&&◌, ◌||◌, ◌≡◌, ℕ, ◌<◌}
use Rattle.ends.specs.Ends as E
use Rattle.ends.specs.Ends.{no_end}
use Rattle.silos.specs.Silo.{has_room}
use Rattle.transmitter.specs.declared.side.Channel.{Channel}
use Rattle.transmitter.specs.declared.side.Commands.{Commands}
use Rattle.transmitter.specs.declared.side.Faults.{Faults}
use Rattle.transmitter.specs.declared.side.Modes.{Modes}
use Rattle.transmitter.specs.declared.side.Outcome.{Outcome}
use Rattle.transmitter.specs.declared.side.Transmitter.{Transmitter}

-- BUSY: SND WD or CHN OPN
abbrev pub is_busy : Transmitter → Bool
is_busy t = t.commands.send_word || t.end.opened

-- the values each number may take: addresses are 0 to 31; "T is ending until closed"; a verdict is awaited only on the CRC of "128
-- words since the last CRC"; and the period's mark stands only at a transmitter that is BUSY, since "not being busy, clears it"
pub record Within (t : Transmitter) : Type 0 where
  pub end : E.Within t.end
  pub destination : t.modes.destination < 32
  pub latched : t.channel.destination < 32
  pub ending : t.channel.ending ≡ true → t.end.opened ≡ true
  pub awaited : t.channel.awaiting ≡ true → t.end.block ≡ 128
  pub marked : t.end.mark ≡ true → is_busy t ≡ true

-- ---- "Fit gives every side its initial state": TX INIT gives the same (reading 10), but for the serial (document 02, No. 6)

abbrev pub no_commands : Commands
no_commands = record { start_transmission = false; send_word = false }

abbrev pub no_modes : Modes
no_modes =
    record { inhibit_increment = false; interrupt_enable = false; read_silo = false; memory_requests = false; retry_if_busy = false; destination = 0 }

abbrev pub no_faults : Faults
no_faults =
    record {
      overrun = false;
      time_out = false;
      master_down = false;
      transmission_error = false;
      memory_overflow = false;
      nonexistent_location = false;
    }

abbrev pub no_outcome : Outcome
no_outcome = record { bus_busy = false; software_reject = false; success = false }

abbrev pub no_channel : Channel
no_channel = record { ending = false; awaiting = false; destination = 0 }

abbrev pub initial : ℕ → Transmitter
initial serial =
    record {
      end = no_end serial;
      commands = no_commands;
      modes = no_modes;
      faults = no_faults;
      outcome = no_outcome;
      channel = no_channel;
    }

-- TX INIT and reset: document 02, No. 6, "kept after closing. Only a new fit resets it"
abbrev pub initialised : Transmitter → Transmitter
initialised t = initial t.end.serial

-- ---- computed bits

-- "ERR is the or of the register's error bits."
abbrev pub any_fault : Faults → Bool
any_fault f = f.overrun || f.time_out || f.master_down || f.transmission_error || f.memory_overflow || f.nonexistent_location

abbrev pub has_error : Transmitter → Bool
has_error t = any_fault t.faults

-- "DTIRDY (silo not full, TX NPR and RD SILO clear, not ending)"
abbrev pub data_in_ready : Transmitter → Bool
data_in_ready t = has_room 64 t.end.silo && not t.modes.memory_requests && not t.modes.read_silo && not t.channel.ending
