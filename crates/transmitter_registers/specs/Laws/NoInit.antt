-- TX INIT is looked for in what a host writes: a word, or the low byte of TCR. A byte write is the write of the register's word with
-- that half changed; of the two halves of TCR only the low one can bring TX INIT into that word.
-- Assumes nothing.
use Rattle.std.specs.Prelude.{false, ◌≡◌, ℕ, ◌^◌, ◌<◌}
use Rattle.std.proofs.Common.{ap, arith}
use Rattle.laws.specs.Bits.{on, bits}
use Rattle.laws.specs.Laws.Fields.{bit_lt}
use Rattle.transmitter.specs.declared.side.Transmitter.{Transmitter}
use Rattle.words.specs.Halves.{with_half}
use Rattle.words.specs.Bits.TCR
use Rattle.transmitter_registers.specs.Shown.{control_word}
use Rattle.transmitter_registers.specs.Writing.{initialises}

-- the low byte: as the byte has it
pub low_byte : (word byte : ℕ) → byte < 2 ^ 8 → initialises (with_half word 0 byte) ≡ initialises byte
low_byte word byte fits = let e : bits (with_half word 0 byte) TCR.TX_INIT 1 ≡ bits byte TCR.TX_INIT 1 = omega arith in ap on e

-- the high byte: not, since TX INIT reads 0
pub high_byte : (t : Transmitter) (byte : ℕ) → initialises (with_half (control_word t) 1 byte) ≡ false
high_byte t byte =
    let e : bits (with_half (control_word t) 1 byte) TCR.TX_INIT 1 ≡ 0 = omega (arith, bit_lt t.commands.start_transmission) in ap on e
