-- Document 01, Registers: what a read of a transmitter's register answers, and what it removes.
-- Assumes nothing.
use Rattle.std.specs.Prelude.{Bool, not, ◌&&◌, ℕ, eqb, Result, Ok, Err}
use Rattle.ends.specs.declared.sides.Answered.{Answered}
use Rattle.laws.specs.Pick.{pick}
use Rattle.silos.specs.Silo.{is_empty, oldest, taken}
use Rattle.words.specs.Address.{low_of}
use Rattle.words.specs.declared.answers.Refusal.{Refusal}
use Rattle.transmitter_registers.specs.Shown.{control_word, status_word}
use Rattle.transmitter.specs.Groups.{with_silo}
use Rattle.transmitter.specs.declared.side.Transmitter.{Transmitter}

-- a transmitter after a read, and the answer
abbrev pub Reading : Type 0
Reading = Answered Transmitter (Result ℕ Refusal)

-- "TSDB read shows the oldest word, removing it only with RD SILO set"; "Data silo empty: 4". It shows what stood before (reading 9).
abbrev pub data_read : Transmitter → Reading
data_read t =
    pick (is_empty t.end.silo) (record { side = t; answer = Err Refusal.Nothing })
    (pick t.modes.read_silo (record { side = with_silo t (taken t.end.silo); answer = Ok (oldest t.end.silo) })
    (record { side = t; answer = Ok (oldest t.end.silo) }))

-- "TCR 0, TSR 2, .. TSBC 6, TSBA 8, .. TSCRC 12"; any other number, an odd one too, is no register (reading 1)
abbrev pub show_of : Transmitter → ℕ → Result ℕ Refusal
show_of t offset =
    pick (eqb offset 0) (Ok (control_word t))
    (pick (eqb offset 2) (Ok (status_word t))
    (pick (eqb offset 6) (Ok t.end.load.count.0)
    (pick (eqb offset 8) (Ok (low_of t.end.load.address.0))
    (pick (eqb offset 12) (Ok t.end.crc)
    (Err Refusal.NoRegister)))))

-- "TSDB 4"
abbrev pub read_of : Transmitter → ℕ → Reading
read_of t offset = pick (eqb offset 4) (data_read t) (record { side = t; answer = show_of t offset })

-- no read but that removes anything
abbrev pub removes : Transmitter → ℕ → Bool
removes t offset = eqb offset 4 && t.modes.read_silo && not (is_empty t.end.silo)
