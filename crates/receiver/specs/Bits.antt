-- RCR and RSR, bit by bit (document 01, Registers, and the manual's 3.2): where each bit of a receiver stands. A host's reads and
-- writes go by this.
-- Assumes nothing.
use Rattle.std.specs.Prelude.{Bool, ℕ, ◌+◌, ◌*◌, ◌^◌}
use Rattle.laws.specs.Bits.{bits, bit_at, set_at}
use Rattle.words.specs.Bits.RCR
use Rattle.words.specs.Bits.RSR
use Rattle.receiver.specs.declared.side.Commands.{Commands}
use Rattle.receiver.specs.declared.side.Faults.{Faults}
use Rattle.receiver.specs.declared.side.Modes.{Modes}
use Rattle.receiver.specs.declared.side.Outcome.{Outcome}
use Rattle.receiver.specs.declared.side.Receiver.{Receiver}

-- ---- out

-- RCR, with EA17 and EA16, and with what stands at RC INIT and at DTIRDY: "0 RCV DAT, 1 RC INIT, 8 to 12 the last opening's sender
-- address, 13 RCV WD, 14 RC NPR, 15 REJ"
abbrev pub control_of : Receiver → ℕ → Bool → Bool → ℕ
control_of r extension at_init at_ready =
    set_at RCR.RCV_DAT r.commands.receive_data
    + set_at RCR.RC_INIT at_init
    + set_at RCR.INH_ADI r.modes.inhibit_increment
    + set_at RCR.DTIRDY at_ready
    + extension * 2 ^ RCR.EA16
    + set_at RCR.IE r.modes.interrupt_enable
    + set_at RCR.LD_SILO r.modes.load_silo
    + r.modes.sender * 2 ^ RCR.IB_00
    + set_at RCR.RCV_WD r.commands.receive_word
    + set_at RCR.RC_NPR r.modes.memory_requests
    + set_at RCR.REJ r.modes.reject

-- RSR, with what stands at BUSY, at DTORDY and at ERR
abbrev pub status_of : Receiver → Bool → Bool → Bool → ℕ
status_of r at_busy at_ready at_error =
    r.end.shown.a * 2 ^ RSR.RSP_A_0
    + r.end.shown.b * 2 ^ RSR.RSP_B_0
    + set_at RSR.CHN_OPN r.end.opened
    + set_at RSR.RECOM r.outcome.reject_complete
    + set_at RSR.BUSY at_busy
    + set_at RSR.SUC_TXF r.outcome.success
    + set_at RSR.DTORDY at_ready
    + set_at RSR.BC_OFL r.faults.byte_count_overflow
    + set_at RSR.TIM_OUT r.faults.time_out
    + set_at RSR.PAR r.faults.parity
    + set_at RSR.TXM_ERR r.faults.transmission_error
    + set_at RSR.MEM_OFL r.faults.memory_overflow
    + set_at RSR.NXL r.faults.nonexistent_location
    + set_at RSR.ERR at_error

-- ---- in

abbrev pub commands_in : ℕ → Commands
commands_in control = record { receive_data = bit_at control RCR.RCV_DAT; receive_word = bit_at control RCR.RCV_WD }

abbrev pub modes_in : ℕ → Modes
modes_in control =
    record {
      inhibit_increment = bit_at control RCR.INH_ADI;
      interrupt_enable = bit_at control RCR.IE;
      load_silo = bit_at control RCR.LD_SILO;
      memory_requests = bit_at control RCR.RC_NPR;
      reject = bit_at control RCR.REJ;
      sender = bits control RCR.IB_00 5;
    }

abbrev pub faults_in : ℕ → Faults
faults_in status =
    record {
      byte_count_overflow = bit_at status RSR.BC_OFL;
      time_out = bit_at status RSR.TIM_OUT;
      parity = bit_at status RSR.PAR;
      transmission_error = bit_at status RSR.TXM_ERR;
      memory_overflow = bit_at status RSR.MEM_OFL;
      nonexistent_location = bit_at status RSR.NXL;
    }

abbrev pub outcome_in : ℕ → Outcome
outcome_in status = record { reject_complete = bit_at status RSR.RECOM; success = bit_at status RSR.SUC_TXF }
