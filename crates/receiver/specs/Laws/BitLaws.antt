-- What RCR and RSR show is a word.
-- Assumes nothing.
use Rattle.std.specs.Prelude.{Bool, ℕ, ◌<◌}
use Rattle.words.specs.Laws.Registers as registers
use Rattle.receiver.specs.Bits.{control_of, status_of}
use Rattle.receiver.specs.Side.{Within}
use Rattle.receiver.specs.declared.side.Receiver.{Receiver}

module _ (r : Receiver) (h : Within r) where
  pub control_lt : (extension : ℕ) (at_init at_ready : Bool) → extension < 4 → control_of r extension at_init at_ready < 65536
  control_lt extension at_init at_ready two =
      registers.control_lt r.commands.receive_data at_init r.modes.inhibit_increment at_ready extension r.modes.interrupt_enable
      r.modes.load_silo r.modes.sender r.commands.receive_word r.modes.memory_requests r.modes.reject two h.sender

  pub status_lt : (at_busy at_ready at_error : Bool) → status_of r at_busy at_ready at_error < 65536
  status_lt at_busy at_ready at_error =
      registers.status_lt r.end.shown.a r.end.shown.b r.end.opened r.outcome.reject_complete at_busy r.outcome.success at_ready
      r.faults.byte_count_overflow r.faults.time_out r.faults.parity r.faults.transmission_error r.faults.memory_overflow
      r.faults.nonexistent_location at_error h.end.shown.code_a h.end.shown.code_b
