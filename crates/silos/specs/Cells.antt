-- How words lie in cells: the oldest in the first. Taking moves the others down, and the freed cell reads 0.
-- Assumes nothing.
use Rattle.std.specs.Prelude.{List, [], ◌∷◌, ◌++◌, ℕ, drop}

abbrev pub shifted : List ℕ → List ℕ
shifted cells = drop 1 cells ++ (0 ∷ [])
