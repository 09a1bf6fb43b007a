-- The bits of TMMR, offset 10 (the manual's 3.1.6), by their places: each name is the manual's.
-- Assumes nothing.
use Rattle.std.specs.Prelude.{ℕ}

-- TXM AD0 to TXM AD4, an address
abbrev pub TXM_AD0 : ℕ
TXM_AD0 = 0

abbrev pub MASTER : ℕ
MASTER = 8

abbrev pub SEC : ℕ
SEC = 9

abbrev pub NOW_MST : ℕ
NOW_MST = 10

abbrev pub CHN_OPN : ℕ
CHN_OPN = 11

abbrev pub AUT_ADR : ℕ
AUT_ADR = 12

abbrev pub CLR_ADR : ℕ
CLR_ADR = 13

abbrev pub AIP_RDY : ℕ
AIP_RDY = 14

abbrev pub AOP_RDY : ℕ
AOP_RDY = 15
