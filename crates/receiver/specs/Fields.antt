-- A group of a receiver's record with one bit or number changed: all that changes one goes by these.
-- Assumes nothing.
use Rattle.std.specs.Prelude.{Bool, ℕ}
use Rattle.receiver.specs.declared.side.Channel.{Channel}
use Rattle.receiver.specs.declared.side.Faults.{Faults}
use Rattle.receiver.specs.declared.side.Modes.{Modes}
use Rattle.receiver.specs.declared.side.Outcome.{Outcome}

-- ---- RCR

-- REJ
abbrev pub with_reject : Modes → Bool → Modes
with_reject m x =
    record { inhibit_increment = m.inhibit_increment; interrupt_enable = m.interrupt_enable; load_silo = m.load_silo; memory_requests = m.memory_requests; reject = x; sender = m.sender }

-- the last opening's sender address
abbrev pub with_sender : Modes → ℕ → Modes
with_sender m x =
    record { inhibit_increment = m.inhibit_increment; interrupt_enable = m.interrupt_enable; load_silo = m.load_silo; memory_requests = m.memory_requests; reject = m.reject; sender = x }

-- ---- RSR, the error bits

-- all of them, in the order of the record
abbrev faults_of : Bool → Bool → Bool → Bool → Bool → Bool → Faults
faults_of a b c d e f =
    record { byte_count_overflow = a; time_out = b; parity = c; transmission_error = d; memory_overflow = e; nonexistent_location = f }

-- BC OFL
abbrev pub with_byte_count_overflow : Faults → Bool → Faults
with_byte_count_overflow f x = faults_of x f.time_out f.parity f.transmission_error f.memory_overflow f.nonexistent_location

-- TIM OUT
abbrev pub with_time_out : Faults → Bool → Faults
with_time_out f x = faults_of f.byte_count_overflow x f.parity f.transmission_error f.memory_overflow f.nonexistent_location

-- PAR
abbrev pub with_parity : Faults → Bool → Faults
with_parity f x = faults_of f.byte_count_overflow f.time_out x f.transmission_error f.memory_overflow f.nonexistent_location

-- TXM ERR
abbrev pub with_transmission_error : Faults → Bool → Faults
with_transmission_error f x = faults_of f.byte_count_overflow f.time_out f.parity x f.memory_overflow f.nonexistent_location

-- MEM OFL
abbrev pub with_memory_overflow : Faults → Bool → Faults
with_memory_overflow f x = faults_of f.byte_count_overflow f.time_out f.parity f.transmission_error x f.nonexistent_location

-- NXL
abbrev pub with_nonexistent_location : Faults → Bool → Faults
with_nonexistent_location f x = faults_of f.byte_count_overflow f.time_out f.parity f.transmission_error f.memory_overflow x

-- ---- RSR, the rest

-- RECOM
abbrev pub with_reject_complete : Outcome → Bool → Outcome
with_reject_complete o x = record { reject_complete = x; success = o.success }

-- SUC TXF
abbrev pub with_success : Outcome → Bool → Outcome
with_success o x = record { reject_complete = o.reject_complete; success = x }

-- ---- the channel

-- whether a CRC was taken and its verdict is owed
abbrev pub with_owed : Channel → Bool → Channel
with_owed c x = record { owed = x; good = c.good; bad_parity = c.bad_parity; truncated = c.truncated }

-- whether that verdict is good
abbrev pub with_good : Channel → Bool → Channel
with_good c x = record { owed = c.owed; good = x; bad_parity = c.bad_parity; truncated = c.truncated }

-- whether the word before had bad parity
abbrev pub with_bad_parity : Channel → Bool → Channel
with_bad_parity c x = record { owed = c.owed; good = c.good; bad_parity = x; truncated = c.truncated }

-- whether the message is truncated
abbrev pub with_truncated : Channel → Bool → Channel
with_truncated c x = record { owed = c.owed; good = c.good; bad_parity = c.bad_parity; truncated = x }
