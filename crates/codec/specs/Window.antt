-- A part of a list at a place, and a list put in its place: the ways into the lent cells and out of them. One cell alone is also set: the
-- header's, by `put_holder` (`cells`, `Layout`), and a silo's, where a word is added in place (`plain`).
-- Assumes nothing.
use Rattle.std.specs.Prelude.{List, ◌++◌, ℕ, ◌+◌, length, get_or, take, drop}

-- what stands in a cell
abbrev pub cell : List ℕ → ℕ → ℕ
cell cells i = get_or cells i 0

-- the n cells from `at` on
abbrev pub window : List ℕ → ℕ → ℕ → List ℕ
window cells at n = take n (drop at cells)

-- `w` in the place of as many cells from `at` on. `◌++◌` associates to the left: (before ++ w) ++ after, as in `lib.Seq`
abbrev pub splice : List ℕ → ℕ → List ℕ → List ℕ
splice cells at w = take at cells ++ w ++ drop (at + length w) cells
