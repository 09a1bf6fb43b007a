-- What an end starts with is within its values, and so is an end in which some of them are changed.
-- Assumes nothing.
use Rattle.std.specs.Prelude.{ℕ, ◌+◌, ◌^◌, ◌<◌}
use Rattle.std.proofs.Common.{arith, lit<, lit≤}
use Rattle.silos.specs.Silo.{Sized}
use Rattle.silos.specs.Laws.Laws.{sized_none}
use Rattle.silos.specs.declared.Silo.{Silo}
use Rattle.words.specs.Codes.{Coded}
use Rattle.words.specs.Crc.{crc_word}
use Rattle.words.specs.Load.{Bounded}
use Rattle.words.specs.Laws.CodeLaws.{coded_none}
use Rattle.words.specs.Laws.CrcLaws.{word_lt}
use Rattle.words.specs.Laws.LoadLaws.{bounded_none}
use Rattle.words.specs.declared.codes.Codes.{Codes}
use Rattle.words.specs.declared.load.Load.{Load}
use Rattle.ends.specs.Ends.{Values, Within, no_end, raised}

pub within_none : {serial : ℕ} → serial < 2 ^ 16 → Within (no_end serial)
within_none fits =
    record { silo = sized_none 64 (lit≤ tt); load = bounded_none; shown = coded_none; block = lit≤ tt; crc = lit< tt; serial = fits }

-- raised, a serial has 16 bits
pub raised_fits : (serial : ℕ) → raised serial < 2 ^ 16
raised_fits serial = omega arith

module _ {words : Silo} {loaded : Load} {codes : Codes} {since check number : ℕ} (h : Values words loaded codes since check number) where
  pub silo_kept : {x : Silo} → Sized 64 x → Values x loaded codes since check number
  silo_kept fits = record { silo = fits; load = h.load; shown = h.shown; block = h.block; crc = h.crc; serial = h.serial }

  pub load_kept : {x : Load} → Bounded x → Values words x codes since check number
  load_kept fits = record { silo = h.silo; load = fits; shown = h.shown; block = h.block; crc = h.crc; serial = h.serial }

  pub shown_kept : {x : Codes} → Coded x → Values words loaded x since check number
  shown_kept fits = record { silo = h.silo; load = h.load; shown = fits; block = h.block; crc = h.crc; serial = h.serial }

  -- both counts restart
  pub restart_kept : Values words loaded codes 0 0 number
  restart_kept = record { silo = h.silo; load = h.load; shown = h.shown; block = lit≤ tt; crc = lit< tt; serial = h.serial }

  -- a word is counted
  pub count_kept : (word : ℕ) → since < 128 → Values words loaded codes (since + 1) (crc_word check word) number
  count_kept word short =
      record { silo = h.silo; load = h.load; shown = h.shown; block = omega arith; crc = word_lt check word h.crc; serial = h.serial }

  -- the channel opens
  pub opening_kept : {x : ℕ} → x < 2 ^ 16 → Values words loaded codes 0 0 x
  opening_kept fits = record { silo = h.silo; load = h.load; shown = h.shown; block = lit≤ tt; crc = lit< tt; serial = fits }
