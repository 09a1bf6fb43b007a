-- Document 01, Registers: what a read of a receiver's register answers, and what it removes.
-- Assumes nothing.
use Rattle.std.specs.Prelude.{Bool, not, ◌&&◌, ℕ, eqb, Result, Ok, Err}
use Rattle.ends.specs.declared.sides.Answered.{Answered}
use Rattle.laws.specs.Pick.{pick}
use Rattle.silos.specs.Silo.{is_empty, oldest, taken}
use Rattle.words.specs.Address.{low_of}
use Rattle.words.specs.declared.answers.Refusal.{Refusal}
use Rattle.receiver_registers.specs.Shown.{control_word, status_word}
use Rattle.receiver.specs.Groups.{with_silo}
use Rattle.receiver.specs.declared.side.Receiver.{Receiver}

-- a receiver after a read, and the answer
abbrev pub Reading : Type 0
Reading = Answered Receiver (Result ℕ Refusal)

-- "RDDB alike, removing it unless RC NPR is set"; "Data silo empty: 4". It shows what stood before (reading 9), and adds nothing to RDBC
-- (reading 7).
abbrev pub data_read : Receiver → Reading
data_read r =
    pick (is_empty r.end.silo) (record { side = r; answer = Err Refusal.Nothing })
    (pick r.modes.memory_requests (record { side = r; answer = Ok (oldest r.end.silo) })
    (record { side = with_silo r (taken r.end.silo); answer = Ok (oldest r.end.silo) }))

-- "RCR 16, RSR 18, .. RDBC 22, RDBA 24, RDCRC 26"; any other number, an odd one too, is no register (reading 1)
abbrev pub show_of : Receiver → ℕ → Result ℕ Refusal
show_of r offset =
    pick (eqb offset 16) (Ok (control_word r))
    (pick (eqb offset 18) (Ok (status_word r))
    (pick (eqb offset 22) (Ok r.end.load.count.0)
    (pick (eqb offset 24) (Ok (low_of r.end.load.address.0))
    (pick (eqb offset 26) (Ok r.end.crc)
    (Err Refusal.NoRegister)))))

-- "RDDB 20"
abbrev pub read_of : Receiver → ℕ → Reading
read_of r offset = pick (eqb offset 20) (data_read r) (record { side = r; answer = show_of r offset })

-- no read but that removes anything
abbrev pub removes : Receiver → ℕ → Bool
removes r offset = eqb offset 20 && not r.modes.memory_requests && not (is_empty r.end.silo)
