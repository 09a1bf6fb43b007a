-- The bits of RCR, offset 16 (document 01, Registers, and the manual's 3.2.1), by their places: each name is the manual's.
-- Assumes nothing.
use Rattle.std.specs.Prelude.{ℕ}

abbrev pub RCV_DAT : ℕ
RCV_DAT = 0

abbrev pub RC_INIT : ℕ
RC_INIT = 1

abbrev pub INH_ADI : ℕ
INH_ADI = 2

abbrev pub DTIRDY : ℕ
DTIRDY = 3

-- EA16, and EA17 above it
abbrev pub EA16 : ℕ
EA16 = 4

abbrev pub IE : ℕ
IE = 6

abbrev pub LD_SILO : ℕ
LD_SILO = 7

-- IB 00 to IB 04, the last opening's sender address
abbrev pub IB_00 : ℕ
IB_00 = 8

abbrev pub RCV_WD : ℕ
RCV_WD = 13

abbrev pub RC_NPR : ℕ
RC_NPR = 14

abbrev pub REJ : ℕ
REJ = 15
