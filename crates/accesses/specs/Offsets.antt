-- Document 01, Registers: the byte offsets by which a unit's sides are told apart, and that of TX INIT.
-- Assumes nothing.
use Rattle.std.specs.Prelude.{ℕ}

-- "TCR 0": its low byte has TX INIT
abbrev pub TCR : ℕ
TCR = 0

-- "TMMR 10"; "The odd offset above is the high byte."
abbrev pub TMMR : ℕ
TMMR = 10

abbrev pub TMMR_HIGH : ℕ
TMMR_HIGH = 11

-- "RCR 16": from there on they are the receiver's
abbrev pub RCR : ℕ
RCR = 16
