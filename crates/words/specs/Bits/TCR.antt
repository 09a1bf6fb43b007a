-- The bits of TCR, offset 0 (the manual's 3.1.1), by their places: each name is the manual's.
-- Assumes nothing.
use Rattle.std.specs.Prelude.{ℕ}

abbrev pub ST_TXM : ℕ
ST_TXM = 0

abbrev pub TX_INIT : ℕ
TX_INIT = 1

abbrev pub INH_ADI : ℕ
INH_ADI = 2

abbrev pub DT_O_RDY : ℕ
DT_O_RDY = 3

-- EA16, and EA17 above it
abbrev pub EA16 : ℕ
EA16 = 4

abbrev pub IE : ℕ
IE = 6

abbrev pub RD_SILO : ℕ
RD_SILO = 7

-- DC 00 to DC 04, the destination
abbrev pub DC_00 : ℕ
DC_00 = 8

abbrev pub SND_WD : ℕ
SND_WD = 13

abbrev pub TX_NPR : ℕ
TX_NPR = 14

abbrev pub RIB : ℕ
RIB = 15
