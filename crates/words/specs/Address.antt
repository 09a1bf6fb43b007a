-- Document 01, Registers: "TSBA or RDBA with EA17, EA16 is an 18-bit byte address, bit 0 dropped."
-- Assumes nothing.
use Rattle.std.specs.Prelude.{ℕ, ◌+◌, ◌-◌, ◌*◌, ◌/◌, ◌%◌, ◌^◌, Bool, ◌==◌, nat_lt, Result, Ok, Err}
use Rattle.laws.specs.Pick.{pick}
use Rattle.words.specs.declared.address.Address.{Address}

abbrev pub at : ℕ → Address
at address = record { 0 = address }

-- EA17 and EA16 above the sixteen bits, of which bit 0 is dropped: it reads back 0 (reading 6)
abbrev pub address_of : ℕ → ℕ → ℕ
address_of extension low = extension * 2 ^ 16 + low / 2 * 2

-- EA17 and EA16 of an address
abbrev pub extension_of : ℕ → ℕ
extension_of address = address / 2 ^ 16

-- and what TSBA or RDBA shows
abbrev pub low_of : ℕ → ℕ
low_of address = address % 2 ^ 16

-- 777776 octal is the last word's address
abbrev pub is_last : ℕ → Bool
is_last address = address == 2 ^ 18 - 2

-- the next word's address, which wraps past 777776 to 0 with EA17 and EA16 clear (reading 30)
abbrev pub next_address : ℕ → ℕ
next_address address = (address + 2) % 2 ^ 18

-- the word that an address names in a memory of so many words; or it is "outside the memory", and then "the 18-bit byte address it tried"
-- (document 02, No. 3)
abbrev pub place_of : ℕ → ℕ → Result ℕ ℕ
place_of address memory = pick (nat_lt (address / 2) memory) (Ok (address / 2)) (Err address)
