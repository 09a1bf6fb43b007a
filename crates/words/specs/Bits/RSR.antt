-- The bits of RSR, offset 18 (the manual's 3.2.2). Bits 9 to 14 are the error bits, by their places: each name is the manual's.
-- Assumes nothing.
use Rattle.std.specs.Prelude.{ℕ}

-- RSP A 0 and RSP A 1, the response code A
abbrev pub RSP_A_0 : ℕ
RSP_A_0 = 0

-- RSP B 0 and RSP B 1, the response code B
abbrev pub RSP_B_0 : ℕ
RSP_B_0 = 2

abbrev pub CHN_OPN : ℕ
CHN_OPN = 4

abbrev pub RECOM : ℕ
RECOM = 5

abbrev pub BUSY : ℕ
BUSY = 6

abbrev pub SUC_TXF : ℕ
SUC_TXF = 7

abbrev pub DTORDY : ℕ
DTORDY = 8

abbrev pub BC_OFL : ℕ
BC_OFL = 9

abbrev pub TIM_OUT : ℕ
TIM_OUT = 10

abbrev pub PAR : ℕ
PAR = 11

abbrev pub TXM_ERR : ℕ
TXM_ERR = 12

abbrev pub MEM_OFL : ℕ
MEM_OFL = 13

abbrev pub NXL : ℕ
NXL = 14

abbrev pub ERR : ℕ
ERR = 15
