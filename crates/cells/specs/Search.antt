-- The units by their addresses, and by SEC: a look through all of them. A slice finds its units by the index (`Index`), which from a
-- fit on says the same.
-- Assumes nothing.
use Rattle.std.specs.Prelude.{List, ℕ, zero, suc, eqb, ltb, Option, Some, None}
use Rattle.laws.specs.Pick.{pick}
use Rattle.cells.specs.Layout.{address_in, transmitter_address, receiver_address, secondary_in}

-- the first of the n units from i on whose number is a; 16 where there is none
unfoldable pub first_found : (ℕ → ℕ) → ℕ → ℕ → ℕ → ℕ
first_found number_of a zero i = 16
first_found number_of a (suc n) i = pick (eqb (number_of i) a) i (first_found number_of a n (suc i))

-- the unit of such a number: 16 is no unit's
abbrev pub named : ℕ → Option ℕ
named n = pick (ltb n 16) (Some n) None

-- the first of `count` units with that transmitter address
abbrev pub first_transmitter : List ℕ → ℕ → ℕ → ℕ
first_transmitter cells count a = first_found (transmitter_address cells) a count 0

-- with that receiver address
abbrev pub first_receiver : List ℕ → ℕ → ℕ → ℕ
first_receiver cells count a = first_found (receiver_address cells) a count 0

-- the first of `count` units with SEC
abbrev pub first_secondary : List ℕ → ℕ → ℕ
first_secondary cells count = first_found (secondary_in cells) 1 count 0

-- the number that each of them goes by: 0 the transmitter address, 1 the receiver address, 2 SEC
abbrev pub number_in : List ℕ → ℕ → ℕ → ℕ
number_in cells k u = pick (ltb k 2) (address_in cells k u) (secondary_in cells u)
