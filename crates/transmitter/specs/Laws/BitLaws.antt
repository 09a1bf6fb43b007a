-- What TCR and TSR show is a word.
-- Assumes nothing.
use Rattle.std.specs.Prelude.{Bool, ℕ, ◌<◌}
use Rattle.words.specs.Laws.Registers as registers
use Rattle.transmitter.specs.Bits.{control_of, status_of}
use Rattle.transmitter.specs.Side.{Within}
use Rattle.transmitter.specs.declared.side.Transmitter.{Transmitter}

module _ (t : Transmitter) (h : Within t) where
  pub control_lt : (extension : ℕ) (at_init at_ready : Bool) → extension < 4 → control_of t extension at_init at_ready < 65536
  control_lt extension at_init at_ready two =
      registers.control_lt t.commands.start_transmission at_init t.modes.inhibit_increment at_ready extension t.modes.interrupt_enable
      t.modes.read_silo t.modes.destination t.commands.send_word t.modes.memory_requests t.modes.retry_if_busy two h.destination

  pub status_lt : (at_busy at_ready at_error : Bool) → status_of t at_busy at_ready at_error < 65536
  status_lt at_busy at_ready at_error =
      registers.status_lt t.end.shown.a t.end.shown.b t.outcome.bus_busy t.outcome.software_reject at_busy t.outcome.success at_ready
      t.faults.overrun t.faults.time_out t.faults.master_down t.faults.transmission_error t.faults.memory_overflow
      t.faults.nonexistent_location at_error h.end.shown.code_a h.end.shown.code_b
