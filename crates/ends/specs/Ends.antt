-- What a transmitter and a receiver both have: the values its numbers may take, its initial state, and the record with one of them
-- changed.
-- Assumes nothing.
use Rattle.std.specs.Prelude.{ℕ, ◌+◌, ◌%◌, ◌^◌, ◌<◌, ◌≤◌, Bool, true, false}
use Rattle.silos.specs.Silo.{Sized, no_words}
use Rattle.silos.specs.declared.Silo.{Silo}
use Rattle.words.specs.Codes.{Coded, no_codes}
use Rattle.words.specs.Crc.{crc_word}
use Rattle.words.specs.Load.{Bounded, no_load}
use Rattle.words.specs.declared.codes.Codes.{Codes}
use Rattle.words.specs.declared.load.Load.{Load}
use Rattle.ends.specs.declared.End.{End}

-- the silo holds at most 64 words, a block has at most 128; "a 16-bit serial" (document 02, No. 6)
pub record Values (words : Silo) (loaded : Load) (codes : Codes) (since check number : ℕ) : Type 0 where
  pub silo : Sized 64 words
  pub load : Bounded loaded
  pub shown : Coded codes
  pub block : since ≤ 128
  pub crc : check < 2 ^ 16
  pub serial : number < 2 ^ 16

abbrev pub Within : End → Type 0
Within e = Values e.silo e.load e.shown e.block e.crc e.serial

-- "Fit gives every side its initial state", and so do TX INIT, RC INIT and reset, each with the serial that the side is to have (document
-- 02, No. 6)
abbrev pub no_end : ℕ → End
no_end serial = record { silo = no_words; load = no_load; shown = no_codes; opened = false; block = 0; crc = 0; mark = false; serial = serial }

-- ---- with one of them changed

abbrev pub with_silo : End → Silo → End
with_silo e x = record { silo = x; load = e.load; shown = e.shown; opened = e.opened; block = e.block; crc = e.crc; mark = e.mark; serial = e.serial }

abbrev pub with_load : End → Load → End
with_load e x = record { silo = e.silo; load = x; shown = e.shown; opened = e.opened; block = e.block; crc = e.crc; mark = e.mark; serial = e.serial }

abbrev pub with_shown : End → Codes → End
with_shown e x = record { silo = e.silo; load = e.load; shown = x; opened = e.opened; block = e.block; crc = e.crc; mark = e.mark; serial = e.serial }

abbrev pub with_opened : End → Bool → End
with_opened e x = record { silo = e.silo; load = e.load; shown = e.shown; opened = x; block = e.block; crc = e.crc; mark = e.mark; serial = e.serial }

abbrev pub with_mark : End → Bool → End
with_mark e x = record { silo = e.silo; load = e.load; shown = e.shown; opened = e.opened; block = e.block; crc = e.crc; mark = x; serial = e.serial }

-- ---- the count of 128 and the CRC

abbrev pub with_checks : End → ℕ → ℕ → End
with_checks e block crc =
    record { silo = e.silo; load = e.load; shown = e.shown; opened = e.opened; block = block; crc = crc; mark = e.mark; serial = e.serial }

-- "both counts restart", and the CRC (reading 24)
abbrev pub restarted : End → End
restarted e = with_checks e 0 0

-- a word is counted, and in the CRC, the opening word too (reading 23); "A word accepted .. clears" the period's mark
abbrev pub counted : End → ℕ → End
counted e word = with_mark (with_checks e (e.block + 1) (crc_word e.crc word)) false

-- ---- the serial: document 02, No. 6

-- "a 16-bit serial that the transmitter side raises by one at each opening, starting again at 0 after 65,535"
abbrev pub raised : ℕ → ℕ
raised serial = (serial + 1) % 2 ^ 16

abbrev pub with_serial : End → ℕ → End
with_serial e x = record { silo = e.silo; load = e.load; shown = e.shown; opened = e.opened; block = e.block; crc = e.crc; mark = e.mark; serial = x }

-- ---- the opening

-- "At opening each end starts CRC, count of 128 .. afresh", and from then on has the serial of that opening
abbrev pub opening : End → ℕ → End
opening e serial = with_serial (with_opened (restarted e) true) serial
