-- Whether a transmitter acts, and whom it addresses, as numbers of three cells of its window. `IdleLaws` has that it is what the
-- transmitter of those cells does.
-- Assumes nothing.
use Rattle.std.specs.Prelude.{Bool, not, ◌&&◌, ◌||◌, ℕ, ◌%◌, eqb, leb}
use Rattle.laws.specs.Bits.{bits, bit_at}
use Rattle.laws.specs.Pick.{pick}
use Rattle.words.specs.Bits.TCR
use Rattle.words.specs.Bits.TSR

-- by the ring's cell, which says how many words are held, the control cell and the status cell
abbrev pub acts_by : ℕ → ℕ → ℕ → Bool
acts_by ring control status =
    bit_at status TSR.BUSY
    || (bit_at control TCR.SND_WD && leb 64 ring && not (eqb (bits control TCR.DC_00 5) 0) && eqb (bits status TSR.OVERUN 6) 0)

-- by the latched destination, the control cell and the status cell
abbrev pub addressed_by : ℕ → ℕ → ℕ → ℕ
addressed_by latched control status = pick (bit_at status TSR.BUSY) (latched % 32) (bits control TCR.DC_00 5)
