-- A turn of the search: one unit looked at.
-- Assumes nothing.
use mathlib.Core.Path.{◌≡◌}
use Prim.Native.Nat.{ℕ, suc, ◌+◌, ◌-◌, ◌<◌}
use native.Mathlib.Numerals.{add-one}
use native.Mathlib.Omega.{arith}
use lib.Dec.{eqb}
use Rattle.laws.specs.Pick.{pick}
use Rattle.cells.specs.Search.{first_found}

pub turn : (number_of : ℕ → ℕ) (a n i : ℕ) → i < n
    → first_found number_of a (n - i) i ≡ pick (eqb (number_of i) a) i (first_found number_of a (n - (i + 1)) (i + 1))
unfolding first_found
turn number_of a n i h = let e : n - i ≡ suc (n - (i + 1)) = omega arith in rw (e, add-one)
