-- The CRC as the code runs it: a word is put into the register, which is then shifted.
-- Assumes nothing.
use Rattle.std.specs.Prelude.{ℕ, zero, suc}
use Rattle.words.specs.Crc.{crc_bit}

-- one shift with no new bit
abbrev pub step : ℕ → ℕ
step crc = crc_bit crc 0

unfoldable pub steps : ℕ → ℕ → ℕ
steps zero crc = crc
steps (suc n) crc = step (steps n crc)
