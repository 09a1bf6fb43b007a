-- Document 01, One slice: "The parity bit makes the count of ones in seventeen lines odd".
-- Assumes nothing.
use Rattle.std.specs.Prelude.{ℕ, ◌+◌, ◌%◌, Bool, true, false, ◌==◌, count_ones}

-- a line carries a one or a zero
abbrev pub line : Bool → ℕ
line true = 1
line false = 0

-- the count of ones in seventeen lines: sixteen of data, one of parity
abbrev pub ones_of : ℕ → Bool → ℕ
ones_of word parity = count_ones word + line parity

-- the check counts data and parity together
abbrev pub good_parity : ℕ → Bool → Bool
good_parity word parity = ones_of word parity % 2 == 1

-- the parity bit: a one where the data lines alone have an even count
abbrev pub parity_of : ℕ → Bool
parity_of word = count_ones word % 2 == 0
