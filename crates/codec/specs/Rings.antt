-- How the words of a silo lie in its cells. Document 02, No. 7: "Keep each silo with a start place and a length, going round at its end,
-- address silos too." A silo of a size has as many cells, a ring, and one cell more for its start place and its length: start + 64 x length.
-- The definitions are over the size, "so that 64 and 50 share it".
-- Assumes nothing.
use Rattle.std.specs.Prelude.{List, ◌++◌, ℕ, ◌+◌, ◌-◌, ◌*◌, ◌/◌, ◌%◌, min, ltb, length, take, drop, replicate}
use Rattle.laws.specs.Pick.{pick}
use Rattle.silos.specs.declared.Silo.{Silo}

-- "going round at its end": a place past the last one
abbrev pub around : ℕ → ℕ → ℕ
around size place = pick (ltb place size) place (place - size)

-- the cells from a place on, and round to it again
abbrev pub round_from : ℕ → List ℕ → List ℕ
round_from start ring = drop start ring ++ take start ring

-- ---- in

-- the start place: one past the last reads by the remainder
abbrev pub start_in : ℕ → ℕ → ℕ
start_in size cell = cell % 64 % size

-- the length: one above the size reads as full
abbrev pub length_in : ℕ → ℕ → ℕ
length_in size cell = min size (cell / 64)

-- so many words from a place on, in order, and zeros behind them
unfoldable pub in_order : ℕ → ℕ → List ℕ → List ℕ
in_order held start ring = take held (round_from start ring) ++ replicate (64 - held) 0

-- the silo that a ring holds
abbrev pub silo_of : ℕ → ℕ → List ℕ → Silo
silo_of size cell ring = record { cells = in_order (length_in size cell) (start_in size cell) ring; held = length_in size cell }

-- ---- out

-- the start place where so many words are held now: as many places on as there are words fewer. So a word that is taken leaves its cell as
-- it is, and a word that comes leaves the start where it is.
abbrev pub start_for : ℕ → ℕ → ℕ → ℕ
start_for size cell held = around size (start_in size cell + (length_in size cell - held))

-- the start place one further on: the oldest word is taken, whatever comes
abbrev pub start_next : ℕ → ℕ → ℕ
start_next size cell = around size (start_in size cell + 1)

-- a ring with these words from a place on; every other cell stays as it was
unfoldable pub laid_from : ℕ → List ℕ → List ℕ → List ℕ
laid_from start words ring = round_from (length ring - start) (words ++ drop (length words) (round_from start ring))

-- the cell of a start place and a length
abbrev pub ring_cell : ℕ → ℕ → ℕ
ring_cell start held = start + held * 64
