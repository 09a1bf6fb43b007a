-- A receiver as the 73 cells of its window, and the receiver that a window holds, whatever its cells hold.
-- Assumes nothing.
use Rattle.std.specs.Prelude.{Bool, ◌&&◌, List, ℕ}
use Rattle.ends.specs.declared.End.{End}
use Rattle.laws.specs.Bits.{bit, bit_at}
use Rattle.words.specs.Address.{extension_of}
use Rattle.words.specs.Bits.RSR
use Rattle.receiver.specs.Bits.{control_of, status_of, commands_in, modes_in, faults_in, outcome_in}
use Rattle.receiver.specs.Requests.{settled}
use Rattle.receiver.specs.declared.side.Channel.{Channel}
use Rattle.receiver.specs.declared.side.Receiver.{Receiver}
use Rattle.codec.specs.Ends.{OWN, CONTROL, STATUS, MARK, window_of, end_in}
use Rattle.codec.specs.Window.{cell, window}

-- ---- out

abbrev pub control_cell : Receiver → ℕ
control_cell r = control_of r (extension_of r.end.load.address.0) r.end.load.loaded r.end.mark

-- RSR's computed bits are not kept: at BUSY stands whether a verdict is owed, at DTORDY whether it is good, and at ERR whether the word
-- before had bad parity
abbrev pub status_cell : Receiver → ℕ
status_cell r = status_of r r.channel.owed r.channel.good r.channel.bad_parity

-- in the place of a window that stood there
abbrev pub enc_receiver : List ℕ → Receiver → List ℕ
enc_receiver old r = window_of old r.end (bit r.channel.truncated) (control_cell r) (status_cell r)

-- ---- in

-- truncated is a number of one bit: one of more reads by the remainder. "R is marked truncated until it closes": a closed R reads as not
-- truncated.
abbrev pub channel_of : ℕ → ℕ → Bool → Channel
channel_of status truncated opened =
    record { owed = bit_at status RSR.BUSY; good = bit_at status RSR.DTORDY; bad_parity = bit_at status RSR.ERR; truncated = bit_at truncated 0 && opened }

-- as the cells have it
abbrev pub receiver_in : End → ℕ → ℕ → ℕ → Receiver
receiver_in end own control status =
    record {
      end = end;
      commands = commands_in control;
      modes = modes_in control;
      faults = faults_in status;
      outcome = outcome_in status;
      channel = channel_of status own end.opened;
    }

-- the receiver that a window holds: a period's mark at a receiver that is not open reads as none: "not being busy, clears it"
abbrev pub dec_receiver : List ℕ → Receiver
dec_receiver w =
    settled
    (receiver_in (end_in w (bit_at (cell w STATUS) RSR.CHN_OPN) (bit_at (cell w CONTROL) MARK)) (cell w OWN) (cell w CONTROL) (cell w STATUS))

-- the receiver that the cells hold at a place
abbrev pub receiver_at : List ℕ → ℕ → Receiver
receiver_at cells at = dec_receiver (window cells at 73)
