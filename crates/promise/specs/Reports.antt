-- What the hosts see of a message by the calls alone: reads of the registers, the interrupt levels, and the serials. "TCR 0, TSR 2, ..
-- TMMR 10, .. RCR 16, RSR 18"; side 0 transmits, 1 receives.
-- Assumes nothing.
use Rattle.std.specs.Prelude.{Bool, true, false, ◌≡◌, ℕ}
use Rattle.laws.specs.Bits.{bit, bit_at}
use Rattle.pcl.specs.Calls.{read_call}
use Rattle.pcl.specs.Numbers.{level_number, level_value, read_call_number, read_call_word, serial_number, serial_value}
use Rattle.pcl.specs.Sides.{level_call, serial_call}
use Rattle.words.specs.Bits.RCR
use Rattle.words.specs.Bits.RSR
use Rattle.words.specs.Bits.TCR
use Rattle.words.specs.Bits.TMMR
use Rattle.words.specs.Bits.TSR
use Rattle.promise.specs.Opening.{Parties}
use Rattle.promise.specs.World.{World}

-- a bit of the word that a read gives
abbrev pub bit_read : World → ℕ → ℕ → ℕ → Bool
bit_read w unit offset place = bit_at (read_call_word (read_call w.cells unit offset).0) place

-- a read answers 0, and that bit is so
abbrev pub Shows : World → ℕ → ℕ → ℕ → Bool → Type 0
Shows w unit offset place set = (read_call_number (read_call w.cells unit offset).0 ≡ 0) × (bit_read w unit offset place ≡ set)

-- an interrupt level call answers 0, and the level stands or does not
abbrev pub Level : World → ℕ → ℕ → Bool → Type 0
Level w unit side stands = (level_number (level_call w.cells unit side) ≡ 0) × (level_value (level_call w.cells unit side) ≡ bit stands)

-- a serial call answers 0, with that serial
abbrev pub Serial : World → ℕ → ℕ → ℕ → Type 0
Serial w unit side number = (serial_number (serial_call w.cells unit side) ≡ 0) × (serial_value (serial_call w.cells unit side) ≡ number)

-- what a read of TSR shows while all goes well: SUC TXF or not, BUSY or not, no SORE, no ERR. RSR has them at the same places, with RECOM
-- for SORE.
pub record Status (w : World) (unit offset : ℕ) (success busy : Bool) : Type 0 where
  pub suc_txf : Shows w unit offset TSR.SUC_TXF success
  pub is_busy : Shows w unit offset TSR.BUSY busy
  pub no_sore : Shows w unit offset TSR.SORE false
  pub no_err : Shows w unit offset TSR.ERR false

-- ---- before the success nothing is reported at either end. Both show the opening's serial (document 02, No. 6).

pub record Unreported (p : Parties) (number : ℕ) (w : World) : Type 0 where
  -- TSR and RSR: no SUC TXF, and BUSY
  pub status : Status w p.sender 2 false true
  pub status_there : Status w p.receiver 18 false true
  -- CHN OPN, of T in TMMR and of R in RSR
  pub opened : Shows w p.sender 10 TMMR.CHN_OPN true
  pub opened_there : Shows w p.receiver 18 RSR.CHN_OPN true
  -- neither level stands
  pub level : Level w p.sender 0 false
  pub level_there : Level w p.receiver 1 false
  pub serial : Serial w p.sender 0 number
  pub serial_there : Serial w p.receiver 1 number

-- ---- from it on both ends report it: "both ends show the same one at success", the opening's serial

pub record Reported (p : Parties) (number : ℕ) (w : World) : Type 0 where
  -- TSR and RSR: SUC TXF, and no BUSY
  pub status : Status w p.sender 2 true false
  pub status_there : Status w p.receiver 18 true false
  -- no CHN OPN
  pub closed : Shows w p.sender 10 TMMR.CHN_OPN false
  pub closed_there : Shows w p.receiver 18 RSR.CHN_OPN false
  -- each level is IE, of T in TCR and of R in RCR: it stands where IE is set
  pub level : Level w p.sender 0 (bit_read w p.sender 0 TCR.IE)
  pub level_there : Level w p.receiver 1 (bit_read w p.receiver 16 RCR.IE)
  pub serial : Serial w p.sender 0 number
  pub serial_there : Serial w p.receiver 1 number
