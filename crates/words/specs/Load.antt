-- A load of words at one end: the byte count, the loaded mark and the address of the next word.
-- Assumes nothing.
use Rattle.std.specs.Prelude.{◌≡◌, ℕ, ◌%◌, ◌^◌, ◌<◌, Bool, true, false, not, ◌==◌}
use Rattle.laws.specs.Pick.{pick}
use Rattle.words.specs.Address.{at, address_of, extension_of, low_of, next_address, is_last}
use Rattle.words.specs.Count.{in_bytes, count_written, count_after_word, words_of}
use Rattle.words.specs.declared.count.ByteCount.{ByteCount}
use Rattle.words.specs.declared.load.Load.{Load}
use Rattle.words.specs.declared.load.Advance.{Advance}

-- the values a load may take: bit 0 of count and address is dropped, and an address has 18 bits
pub record Bounded (l : Load) : Type 0 where
  pub sixteen_bits : l.count.0 < 2 ^ 16
  pub even_count : l.count.0 % 2 ≡ 0
  pub even_address : l.address.0 % 2 ≡ 0
  pub eighteen_bits : l.address.0 < 2 ^ 18

abbrev load_of : ByteCount → Bool → ℕ → Load
load_of count loaded address = record { count = count; loaded = loaded; address = at address }

-- the initial state: nothing loaded, address 0
abbrev pub no_load : Load
no_load = load_of (in_bytes 0) false 0

-- "A written 0 means 65,536 bytes; not loaded, none left."
abbrev pub words_left : Load → ℕ
words_left l = pick l.loaded (words_of l.count).0 0

-- "Writing marks the register loaded."
abbrev pub count_loaded : Load → ℕ → Load
count_loaded l word = load_of (count_written word) true l.address.0

-- TSBA or RDBA written
abbrev pub low_loaded : Load → ℕ → Load
low_loaded l word = load_of l.count l.loaded (address_of (extension_of l.address.0) word)

-- EA17, EA16 written
abbrev pub extension_loaded : Load → ℕ → Load
extension_loaded l extension = load_of l.count l.loaded (address_of extension (low_of l.address.0))

-- "2 added to count and, unless INH ADI, to the address"; the count's wrapped zero "ends the load"
abbrev pub count_moved : Load → ℕ → Load
count_moved l address = load_of (count_after_word l.count) (not ((count_after_word l.count).0 == 0)) address

-- "An address wrapping past 777776 (octal) sets memory overflow"
abbrev pub word_moved : Load → Bool → Advance
word_moved l inhibit =
    pick inhibit (record { load = count_moved l l.address.0; overflow = false })
    (record { load = count_moved l (next_address l.address.0); overflow = is_last l.address.0 })
