-- TCR and TSR, bit by bit (the manual's 3.1): where each bit of a transmitter stands. A host's reads and writes go by this.
-- Assumes nothing.
use Rattle.std.specs.Prelude.{Bool, ℕ, ◌+◌, ◌*◌, ◌^◌}
use Rattle.laws.specs.Bits.{bits, bit_at, set_at}
use Rattle.words.specs.Bits.TCR
use Rattle.words.specs.Bits.TSR
use Rattle.transmitter.specs.declared.side.Commands.{Commands}
use Rattle.transmitter.specs.declared.side.Faults.{Faults}
use Rattle.transmitter.specs.declared.side.Modes.{Modes}
use Rattle.transmitter.specs.declared.side.Outcome.{Outcome}
use Rattle.transmitter.specs.declared.side.Transmitter.{Transmitter}

-- ---- out

-- TCR, with EA17 and EA16, and with what stands at TX INIT and at DT O RDY
abbrev pub control_of : Transmitter → ℕ → Bool → Bool → ℕ
control_of t extension at_init at_ready =
    set_at TCR.ST_TXM t.commands.start_transmission
    + set_at TCR.TX_INIT at_init
    + set_at TCR.INH_ADI t.modes.inhibit_increment
    + set_at TCR.DT_O_RDY at_ready
    + extension * 2 ^ TCR.EA16
    + set_at TCR.IE t.modes.interrupt_enable
    + set_at TCR.RD_SILO t.modes.read_silo
    + t.modes.destination * 2 ^ TCR.DC_00
    + set_at TCR.SND_WD t.commands.send_word
    + set_at TCR.TX_NPR t.modes.memory_requests
    + set_at TCR.RIB t.modes.retry_if_busy

-- TSR, with what stands at BUSY, at DTIRDY and at ERR
abbrev pub status_of : Transmitter → Bool → Bool → Bool → ℕ
status_of t at_busy at_ready at_error =
    t.end.shown.a * 2 ^ TSR.RSP_A_0
    + t.end.shown.b * 2 ^ TSR.RSP_B_0
    + set_at TSR.TBS_BSY t.outcome.bus_busy
    + set_at TSR.SORE t.outcome.software_reject
    + set_at TSR.BUSY at_busy
    + set_at TSR.SUC_TXF t.outcome.success
    + set_at TSR.DTIRDY at_ready
    + set_at TSR.OVERUN t.faults.overrun
    + set_at TSR.TIM_OUT t.faults.time_out
    + set_at TSR.MST_DWN t.faults.master_down
    + set_at TSR.TXM_ERR t.faults.transmission_error
    + set_at TSR.MEM_OFL t.faults.memory_overflow
    + set_at TSR.NXL t.faults.nonexistent_location
    + set_at TSR.ERR at_error

-- ---- in

abbrev pub commands_in : ℕ → Commands
commands_in control = record { start_transmission = bit_at control TCR.ST_TXM; send_word = bit_at control TCR.SND_WD }

abbrev pub modes_in : ℕ → Modes
modes_in control =
    record {
      inhibit_increment = bit_at control TCR.INH_ADI;
      interrupt_enable = bit_at control TCR.IE;
      read_silo = bit_at control TCR.RD_SILO;
      memory_requests = bit_at control TCR.TX_NPR;
      retry_if_busy = bit_at control TCR.RIB;
      destination = bits control TCR.DC_00 5;
    }

abbrev pub faults_in : ℕ → Faults
faults_in status =
    record {
      overrun = bit_at status TSR.OVERUN;
      time_out = bit_at status TSR.TIM_OUT;
      master_down = bit_at status TSR.MST_DWN;
      transmission_error = bit_at status TSR.TXM_ERR;
      memory_overflow = bit_at status TSR.MEM_OFL;
      nonexistent_location = bit_at status TSR.NXL;
    }

abbrev pub outcome_in : ℕ → Outcome
outcome_in status =
    record { bus_busy = bit_at status TSR.TBS_BSY; software_reject = bit_at status TSR.SORE; success = bit_at status TSR.SUC_TXF }
