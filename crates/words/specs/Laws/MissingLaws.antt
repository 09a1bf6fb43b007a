-- An address outside the memory, at a side that had no error bit, is handed up as it was tried.
-- Assumes nothing.
use Rattle.std.specs.Prelude.{◌≡◌, ℕ, Bool, true, false, not, ◌||◌, refl, Ok, Some}
use Rattle.std.proofs.lemmas.Bool.{false≢true}
use Rattle.std.proofs.Common.{arith, Err}
use Rattle.words.specs.Address.{place_of}
use Rattle.words.specs.Missing.{HandsUp}
use Rattle.words.specs.Laws.AddressLaws.{outside_le}

clear : (others nxl : Bool) → not (others || nxl) ≡ true → nxl ≡ false
clear false false e = refl
clear true nxl e = absurd (false≢true e)
clear false true e = absurd (false≢true e)

pub handed_up : (others before : Bool) (a memory tried : ℕ) → not (others || before) ≡ true → place_of a memory ≡ Err tried
    → HandsUp before true a memory (Ok (Some tried))
handed_up others before a memory tried none e =
    let o = outside_le a memory tried e in
    (clear others before none, refl, o.0, omega (arith, o.0, o.1))
