-- A group of a transmitter's record with one bit or number changed: all that changes one goes by these.
-- Assumes nothing.
use Rattle.std.specs.Prelude.{Bool}
use Rattle.transmitter.specs.declared.side.Channel.{Channel}
use Rattle.transmitter.specs.declared.side.Faults.{Faults}
use Rattle.transmitter.specs.declared.side.Modes.{Modes}
use Rattle.transmitter.specs.declared.side.Outcome.{Outcome}

-- ---- TCR

-- TX NPR
abbrev pub with_memory_requests : Modes → Bool → Modes
with_memory_requests m x =
    record {
      inhibit_increment = m.inhibit_increment;
      interrupt_enable = m.interrupt_enable;
      read_silo = m.read_silo;
      memory_requests = x;
      retry_if_busy = m.retry_if_busy;
      destination = m.destination;
    }

-- ---- TSR, the error bits

-- all of them, in the order of the record
abbrev faults_of : Bool → Bool → Bool → Bool → Bool → Bool → Faults
faults_of a b c d e f =
    record { overrun = a; time_out = b; master_down = c; transmission_error = d; memory_overflow = e; nonexistent_location = f }

-- OVERUN
abbrev pub with_overrun : Faults → Bool → Faults
with_overrun f x = faults_of x f.time_out f.master_down f.transmission_error f.memory_overflow f.nonexistent_location

-- TIM OUT
abbrev pub with_time_out : Faults → Bool → Faults
with_time_out f x = faults_of f.overrun x f.master_down f.transmission_error f.memory_overflow f.nonexistent_location

-- MST DWN
abbrev pub with_master_down : Faults → Bool → Faults
with_master_down f x = faults_of f.overrun f.time_out x f.transmission_error f.memory_overflow f.nonexistent_location

-- TXM ERR
abbrev pub with_transmission_error : Faults → Bool → Faults
with_transmission_error f x = faults_of f.overrun f.time_out f.master_down x f.memory_overflow f.nonexistent_location

-- MEM OFL
abbrev pub with_memory_overflow : Faults → Bool → Faults
with_memory_overflow f x = faults_of f.overrun f.time_out f.master_down f.transmission_error x f.nonexistent_location

-- NXL
abbrev pub with_nonexistent_location : Faults → Bool → Faults
with_nonexistent_location f x = faults_of f.overrun f.time_out f.master_down f.transmission_error f.memory_overflow x

-- ---- TSR, the rest

-- TBS BSY
abbrev pub with_bus_busy : Outcome → Bool → Outcome
with_bus_busy o x = record { bus_busy = x; software_reject = o.software_reject; success = o.success }

-- SORE
abbrev pub with_software_reject : Outcome → Bool → Outcome
with_software_reject o x = record { bus_busy = o.bus_busy; software_reject = x; success = o.success }

-- SUC TXF
abbrev pub with_success : Outcome → Bool → Outcome
with_success o x = record { bus_busy = o.bus_busy; software_reject = o.software_reject; success = x }

-- ---- the channel

-- whether T is ending
abbrev pub with_ending : Channel → Bool → Channel
with_ending c x = record { ending = x; awaiting = c.awaiting; destination = c.destination }

-- whether a CRC was sent and not yet answered 11
abbrev pub with_awaiting : Channel → Bool → Channel
with_awaiting c x = record { ending = c.ending; awaiting = x; destination = c.destination }
