-- Document 01, Registers: what a write of a receiver's register does.
-- Assumes nothing.
use Rattle.std.specs.Prelude.{Bool, not, ◌&&◌, ◌||◌, ℕ, eqb, Result, Ok, Err}
use Rattle.ends.specs.declared.sides.Answered.{Answered}
use Rattle.laws.specs.Bits.{bits, bit_at}
use Rattle.laws.specs.Pick.{pick}
use Rattle.words.specs.Answers.{read_word}
use Rattle.words.specs.Codes.{codes_cleared}
use Rattle.words.specs.Halves.{even_below, with_half}
use Rattle.words.specs.Load.{count_loaded, extension_loaded, low_loaded}
use Rattle.words.specs.Bits.RCR
use Rattle.words.specs.Bits.RSR
use Rattle.words.specs.declared.answers.Write.{Write}
use Rattle.words.specs.declared.answers.Refusal.{Refusal}
use Rattle.receiver.specs.Bits.{commands_in, modes_in, faults_in, outcome_in}
use Rattle.receiver.specs.Fields.{with_sender, with_nonexistent_location}
use Rattle.receiver.specs.Groups.{with_load, with_shown, with_commands, with_modes, with_faults, with_outcome}
use Rattle.receiver.specs.Requests.{requested, settled}
use Rattle.receiver.specs.Side.{initialised, has_error}
use Rattle.receiver.specs.declared.side.Faults.{Faults}
use Rattle.receiver.specs.declared.side.Modes.{Modes}
use Rattle.receiver.specs.declared.side.Receiver.{Receiver}
use Rattle.receiver_registers.specs.Reading.{show_of}

-- a receiver after a write, and the answer
abbrev pub Written : Type 0
Written = Answered Receiver (Result Write Refusal)

-- ---- RCR

-- whether a word written to RCR has RC INIT
abbrev pub initialises : ℕ → Bool
initialises word = bit_at word RCR.RC_INIT

-- the sender: "Read-only bits ignore writes." LD SILO is stored and has no effect (reading 4).
abbrev pub modes_written : Modes → ℕ → Modes
modes_written before word = with_sender (modes_in word) before.sender

-- "TX INIT or RC INIT in a write gives that side its initial state, closing only its own side of a channel; the rest of the write is
-- ignored." RC INIT clears RCR 8 to 12 too (reading 10), and keeps the serial (document 02, No. 6). A write without it: "Read-only bits
-- ignore writes."
abbrev pub control_written : Receiver → ℕ → Receiver
control_written r word =
    pick (initialises word) (initialised r)
    (settled
    (with_modes (with_commands (with_load r (extension_loaded r.end.load (bits word RCR.EA16 2))) (commands_in word)) (modes_written r.modes word)))

-- ---- RSR

-- NXL: a written 0 clears it, a written 1 is ignored (reading 2)
abbrev pub faults_written : Faults → ℕ → Faults
faults_written before word = with_nonexistent_location (faults_in word) (before.nonexistent_location && bit_at word RSR.NXL)

-- SUC TXF taken from clear to set clears the codes shown (reading 16)
abbrev pub status_set : Receiver → ℕ → Receiver
status_set r word =
    with_outcome (with_faults (with_shown r (codes_cleared r.end.shown (not r.outcome.success && (outcome_in word).success))) (faults_written r.faults word))
    (outcome_in word)

-- "A standing bit is set again by an event, not by a host's write of it": a write makes a request where it takes ERR, SUC TXF or RECOM
-- from clear to set (reading 11)
abbrev pub rises : Receiver → Receiver → Bool
rises before after =
    (not (has_error before) && has_error after)
    || (not before.outcome.success && after.outcome.success)
    || (not before.outcome.reject_complete && after.outcome.reject_complete)

abbrev pub request_raised : Receiver → Receiver → Receiver
request_raised before after = pick (rises before after) (settled (requested after)) after

abbrev pub status_written : Receiver → ℕ → Receiver
status_written r word = request_raised r (status_set r word)

-- ---- RDBC and RDBA: bit 0 reads back 0 (reading 6)

abbrev pub count_written : Receiver → ℕ → Receiver
count_written r word = with_load r (count_loaded r.end.load word)

abbrev pub address_written : Receiver → ℕ → Receiver
address_written r word = with_load r (low_loaded r.end.load word)

-- ---- all registers

abbrev done : Receiver → Written
done r = record { side = r; answer = Ok Write.Done }

-- "Writing RDDB, .. or RDCRC changes nothing."
abbrev pub written : Receiver → ℕ → ℕ → Written
written r offset word =
    pick (eqb offset 16) (done (control_written r word))
    (pick (eqb offset 18) (done (status_written r word))
    (pick (eqb offset 22) (done (count_written r word))
    (pick (eqb offset 24) (done (address_written r word))
    (pick (eqb offset 20 || eqb offset 26) (done r)
    (record { side = r; answer = Err Refusal.NoRegister })))))

-- the registers that a write changes: RCR, RSR, RDBC and RDBA
abbrev pub changes : ℕ → Bool
changes offset = eqb offset 16 || eqb offset 18 || eqb offset 22 || eqb offset 24

-- "byte write to TSDB or RDDB" is 3 (reading 8); any other byte write is the write of its register's word with that half changed, which
-- marks RDBC loaded (reading 6)
abbrev pub byte_written : Receiver → ℕ → ℕ → Written
byte_written r offset byte =
    pick (eqb (even_below offset) 20) (record { side = r; answer = Err Refusal.ByteRefused })
    (written r (even_below offset) (with_half (read_word (show_of r (even_below offset))) offset byte))

-- and those that a byte written changes: the same
abbrev pub changes_byte : ℕ → Bool
changes_byte offset = changes (even_below offset)
