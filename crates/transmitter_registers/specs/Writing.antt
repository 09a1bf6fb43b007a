-- Document 01, Registers: what a write of a transmitter's register does.
-- Assumes nothing.
use Rattle.std.specs.Prelude.{Bool, true, not, ◌&&◌, ◌||◌, ℕ, eqb, Result, Ok, Err}
use Rattle.ends.specs.declared.sides.Answered.{Answered}
use Rattle.laws.specs.Bits.{bits, bit_at}
use Rattle.laws.specs.Pick.{pick}
use Rattle.silos.specs.Silo.{put}
use Rattle.words.specs.Answers.{read_word}
use Rattle.words.specs.Codes.{codes_cleared}
use Rattle.words.specs.Halves.{even_below, with_half}
use Rattle.words.specs.Load.{count_loaded, extension_loaded, low_loaded}
use Rattle.words.specs.Bits.TCR
use Rattle.words.specs.Bits.TSR
use Rattle.words.specs.declared.answers.Write.{Write}
use Rattle.words.specs.declared.answers.Refusal.{Refusal}
use Rattle.transmitter.specs.Bits.{commands_in, modes_in, faults_in, outcome_in}
use Rattle.transmitter.specs.Fields.{with_overrun, with_nonexistent_location}
use Rattle.transmitter.specs.Groups.{with_silo, with_load, with_shown, with_commands, with_modes, with_faults, with_outcome}
use Rattle.transmitter.specs.Requests.{requested, settled, failed}
use Rattle.transmitter.specs.Side.{has_error, data_in_ready}
use Rattle.transmitter.specs.declared.side.Faults.{Faults}
use Rattle.transmitter.specs.declared.side.Transmitter.{Transmitter}
use Rattle.transmitter_registers.specs.Reading.{show_of}

-- a transmitter after a write, and the answer
abbrev pub Written : Type 0
Written = Answered Transmitter (Result Write Refusal)

-- ---- TCR

-- whether a word written to TCR has TX INIT. What TX INIT does is said where the master section is at hand, which it changes too:
-- `accesses.Writing`, `unit_written` and `unit_byte_written`.
abbrev pub initialises : ℕ → Bool
initialises word = bit_at word TCR.TX_INIT

-- what a write without TX INIT does: "Read-only bits ignore writes."
abbrev pub control_written : Transmitter → ℕ → Transmitter
control_written t word =
    settled (with_modes (with_commands (with_load t (extension_loaded t.end.load (bits word TCR.EA16 2))) (commands_in word)) (modes_in word))

-- ---- TSR

-- NXL: a written 0 clears it, a written 1 is ignored (reading 2)
abbrev pub faults_written : Faults → ℕ → Faults
faults_written before word = with_nonexistent_location (faults_in word) (before.nonexistent_location && bit_at word TSR.NXL)

-- SUC TXF taken from clear to set clears the codes shown (reading 16)
abbrev pub status_set : Transmitter → ℕ → Transmitter
status_set t word =
    with_outcome (with_faults (with_shown t (codes_cleared t.end.shown (not t.outcome.success && (outcome_in word).success))) (faults_written t.faults word))
    (outcome_in word)

-- "A standing bit is set again by an event, not by a host's write of it": a write makes a request where it takes ERR, SUC TXF, SORE, or
-- TBS BSY with RIB clear, from clear to set (reading 11)
abbrev pub rises : Transmitter → Transmitter → Bool
rises before after =
    (not (has_error before) && has_error after)
    || (not before.outcome.success && after.outcome.success)
    || (not before.outcome.software_reject && after.outcome.software_reject)
    || (not before.outcome.bus_busy && after.outcome.bus_busy && not after.modes.retry_if_busy)

abbrev pub request_raised : Transmitter → Transmitter → Transmitter
request_raised before after = pick (rises before after) (settled (requested after)) after

abbrev pub status_written : Transmitter → ℕ → Transmitter
status_written t word = request_raised t (status_set t word)

-- ---- TSDB

-- "TSDB write: taken if DTIRDY ..; else 6." "TSDB: OVERUN set, with its request". It adds nothing to TSBC (reading 7).
abbrev pub data_written : Transmitter → ℕ → Written
data_written t word =
    pick (data_in_ready t) (record { side = with_silo t (put 64 t.end.silo word); answer = Ok Write.Done })
    (record { side = failed t (with_overrun t.faults true); answer = Ok Write.Dropped })

-- ---- TSBC and TSBA: bit 0 reads back 0 (reading 6)

abbrev pub count_written : Transmitter → ℕ → Transmitter
count_written t word = with_load t (count_loaded t.end.load word)

abbrev pub address_written : Transmitter → ℕ → Transmitter
address_written t word = with_load t (low_loaded t.end.load word)

-- ---- all registers

abbrev done : Transmitter → Written
done t = record { side = t; answer = Ok Write.Done }

-- "Writing .. TSCRC .. changes nothing."
abbrev pub written : Transmitter → ℕ → ℕ → Written
written t offset word =
    pick (eqb offset 0) (done (control_written t word))
    (pick (eqb offset 2) (done (status_written t word))
    (pick (eqb offset 4) (data_written t word)
    (pick (eqb offset 6) (done (count_written t word))
    (pick (eqb offset 8) (done (address_written t word))
    (pick (eqb offset 12) (done t)
    (record { side = t; answer = Err Refusal.NoRegister }))))))

-- the registers that a write changes: TCR, TSR, TSDB, TSBC and TSBA
abbrev pub changes : ℕ → Bool
changes offset = eqb offset 0 || eqb offset 2 || eqb offset 4 || eqb offset 6 || eqb offset 8

-- "byte write to TSDB or RDDB" is 3 (reading 8); any other byte write is the write of its register's word with that half changed, which
-- marks TSBC loaded (reading 6)
abbrev pub byte_written : Transmitter → ℕ → ℕ → Written
byte_written t offset byte =
    pick (eqb (even_below offset) 4) (record { side = t; answer = Err Refusal.ByteRefused })
    (written t (even_below offset) (with_half (read_word (show_of t (even_below offset))) offset byte))

-- and those that a byte written changes
abbrev pub changes_byte : ℕ → Bool
changes_byte offset = not (eqb (even_below offset) 4) && changes (even_below offset)
