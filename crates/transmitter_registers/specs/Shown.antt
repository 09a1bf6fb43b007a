-- What TCR and TSR show: the stored bits, and those that are computed (the manual's 3.1).
-- Assumes nothing.
use Rattle.std.specs.Prelude.{false, not, ℕ}
use Rattle.silos.specs.Silo.{is_empty}
use Rattle.words.specs.Address.{extension_of}
use Rattle.transmitter.specs.Bits.{control_of, status_of}
use Rattle.transmitter.specs.Side.{is_busy, has_error, data_in_ready}
use Rattle.transmitter.specs.declared.side.Transmitter.{Transmitter}

-- TX INIT is write-only and reads 0 (reading 4). DT O RDY: a word is held (reading 3).
abbrev pub control_word : Transmitter → ℕ
control_word t = control_of t (extension_of t.end.load.address.0) false (not (is_empty t.end.silo))

abbrev pub status_word : Transmitter → ℕ
status_word t = status_of t (is_busy t) (data_in_ready t) (has_error t)
