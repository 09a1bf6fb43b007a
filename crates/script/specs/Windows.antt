-- The window of the input moves on: what it holds and is not read yet goes to its front.
-- Assumes nothing.
use Rattle.std.specs.Prelude.{List, ℕ, ◌-◌, ltb, length, take, drop}
use Rattle.std.proofs.lemmas.List.Edits.{sets}
use Rattle.laws.specs.Pick.{pick}

abbrev pub rest_kept : List ℕ → ℕ → ℕ → ℕ × List ℕ
rest_kept window at end =
    pick (ltb end at) (0, window)
    (pick (ltb (length window) end) (0, window) (end - at, sets window 0 (take (end - at) (drop at window))))
