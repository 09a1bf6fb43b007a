-- A load stays within its values.
-- Assumes nothing.
use Rattle.std.specs.Prelude.{◌≡◌, ℕ, ◌%◌, ◌^◌, ◌<◌, Bool, true, false, refl}
use Rattle.std.proofs.Common.{arith, lit<}
use Rattle.words.specs.Address.{next_address}
use Rattle.words.specs.Load.{Bounded, no_load, count_loaded, low_loaded, extension_loaded, count_moved, word_moved}
use Rattle.words.specs.declared.load.Load.{Load}

pub bounded_none : Bounded no_load
bounded_none = record { sixteen_bits = lit< tt; even_count = refl; even_address = refl; eighteen_bits = lit< tt }

module _ (l : Load) (h : Bounded l) where
  pub bounded_count : (word : ℕ) → word < 2 ^ 16 → Bounded (count_loaded l word)
  bounded_count word fits = record { sixteen_bits = omega arith; even_count = omega arith; even_address = h.even_address; eighteen_bits = h.eighteen_bits }

  pub bounded_low : (word : ℕ) → word < 2 ^ 16 → Bounded (low_loaded l word)
  bounded_low word fits =
      record { sixteen_bits = h.sixteen_bits; even_count = h.even_count; even_address = omega arith; eighteen_bits = omega (arith, h.eighteen_bits) }

  pub bounded_extension : (extension : ℕ) → extension < 4 → Bounded (extension_loaded l extension)
  bounded_extension extension fits =
      record { sixteen_bits = h.sixteen_bits; even_count = h.even_count; even_address = omega arith; eighteen_bits = omega arith }

  count_moved_lem : (address : ℕ) → address % 2 ≡ 0 → address < 2 ^ 18 → Bounded (count_moved l address)
  count_moved_lem address even fits =
      record { sixteen_bits = omega arith; even_count = omega (arith, h.even_count); even_address = even; eighteen_bits = fits }

  pub bounded_moved : (inhibit : Bool) → Bounded (word_moved l inhibit).load
  bounded_moved true = count_moved_lem l.address.0 h.even_address h.eighteen_bits
  bounded_moved false = count_moved_lem (next_address l.address.0) (omega (arith, h.even_address)) (omega arith)
