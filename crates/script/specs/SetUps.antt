-- Document 01, The script program: "Kind 1 fit: count, then transmitter, receiver, switch per unit, one byte each; memories 64 zero
-- words." A fit is given four numbers for each unit: transmitter, receiver, switch, memory length.
-- Assumes nothing.
use Rattle.std.specs.Prelude.{List, [], ◌∷◌, ◌++◌, ℕ, zero, suc, ◌+◌, ◌*◌, ltb, length}
use Rattle.std.proofs.lemmas.List.Edits.{sets}
use Rattle.laws.specs.Pick.{pick}
use Rattle.script.specs.Records.{byte_at}

-- the numbers of the unit whose bytes stand from `at` on
abbrev pub unit_at : List ℕ → ℕ → List ℕ
unit_at bytes at = byte_at bytes at ∷ byte_at bytes (at + 1) ∷ byte_at bytes (at + 2) ∷ 64 ∷ []

-- the numbers of the first n units
unfoldable pub units_at : ℕ → List ℕ → List ℕ
units_at zero bytes = []
units_at (suc n) bytes = units_at n bytes ++ unit_at bytes (3 * n)

-- the numbers of so many units; none where bytes lack
abbrev pub set_up_of : List ℕ → ℕ → List ℕ
set_up_of bytes count = pick (ltb (length bytes) (3 * count)) [] (units_at count bytes)

-- how many numbers there are, and the place for them, with the set-up at its front; or none, where there is no room or bytes lack
abbrev pub set_up_put : List ℕ → ℕ → List ℕ → ℕ × List ℕ
set_up_put bytes count numbers =
    pick (ltb (length bytes) (3 * count)) (0, numbers)
    (pick (ltb (length numbers) (4 * count)) (0, numbers) (4 * count, sets numbers 0 (units_at count bytes)))
