-- A transmitter as the 73 cells of its window, and the transmitter that a window holds, whatever its cells hold.
-- Assumes nothing.
use Rattle.std.specs.Prelude.{Bool, ◌&&◌, List, ℕ, ◌%◌, eqb}
use Rattle.ends.specs.declared.End.{End}
use Rattle.laws.specs.Bits.{bit_at}
use Rattle.words.specs.Address.{extension_of}
use Rattle.words.specs.Bits.TSR
use Rattle.transmitter.specs.Bits.{control_of, status_of, commands_in, modes_in, faults_in, outcome_in}
use Rattle.transmitter.specs.Requests.{settled}
use Rattle.transmitter.specs.declared.side.Channel.{Channel}
use Rattle.transmitter.specs.declared.side.Transmitter.{Transmitter}
use Rattle.codec.specs.Ends.{OWN, CONTROL, STATUS, MARK, window_of, end_in}
use Rattle.codec.specs.Window.{cell, window}

-- ---- out

abbrev pub control_cell : Transmitter → ℕ
control_cell t = control_of t (extension_of t.end.load.address.0) t.end.load.loaded t.end.mark

-- TSR's computed bits are not kept: at BUSY stands whether the channel is open, at DTIRDY whether T is ending, and at ERR whether a
-- verdict is awaited
abbrev pub status_cell : Transmitter → ℕ
status_cell t = status_of t t.end.opened t.channel.ending t.channel.awaiting

-- in the place of a window that stood there
abbrev pub enc_transmitter : List ℕ → Transmitter → List ℕ
enc_transmitter old t = window_of old t.end t.channel.destination (control_cell t) (status_cell t)

-- ---- in

-- "T is ending until closed": a closed T reads as not ending. "128 words since the last CRC": a verdict is awaited only with so many. The
-- destination is an address: one above 31 reads by the remainder.
abbrev pub channel_of : ℕ → ℕ → Bool → ℕ → Channel
channel_of status destination opened block =
    record { ending = bit_at status TSR.DTIRDY && opened; awaiting = bit_at status TSR.ERR && eqb block 128; destination = destination % 32 }

-- as the cells have it
abbrev pub transmitter_in : End → ℕ → ℕ → ℕ → Transmitter
transmitter_in end own control status =
    record {
      end = end;
      commands = commands_in control;
      modes = modes_in control;
      faults = faults_in status;
      outcome = outcome_in status;
      channel = channel_of status own end.opened end.block;
    }

-- the transmitter that a window holds: a period's mark at a transmitter that is not BUSY reads as none: "not being busy, clears it"
abbrev pub dec_transmitter : List ℕ → Transmitter
dec_transmitter w =
    settled
    (transmitter_in (end_in w (bit_at (cell w STATUS) TSR.BUSY) (bit_at (cell w CONTROL) MARK)) (cell w OWN) (cell w CONTROL) (cell w STATUS))

-- the transmitter that the cells hold at a place
abbrev pub transmitter_at : List ℕ → ℕ → Transmitter
transmitter_at cells at = dec_transmitter (window cells at 73)
