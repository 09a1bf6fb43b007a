-- What RCR and RSR show: the stored bits, and those that are computed (the manual's 3.2).
-- Assumes nothing.
use Rattle.std.specs.Prelude.{false, ℕ}
use Rattle.words.specs.Address.{extension_of}
use Rattle.receiver.specs.Bits.{control_of, status_of}
use Rattle.receiver.specs.Side.{is_busy, has_error, data_in_ready, data_out_ready}
use Rattle.receiver.specs.declared.side.Receiver.{Receiver}

-- RC INIT is write-only and reads 0 (reading 4).
abbrev pub control_word : Receiver → ℕ
control_word r = control_of r (extension_of r.end.load.address.0) false (data_in_ready r)

abbrev pub status_word : Receiver → ℕ
status_word r = status_of r (is_busy r) (data_out_ready r) (has_error r)
