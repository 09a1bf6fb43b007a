-- What a state has that has room for a unit's block.
-- Assumes nothing.
use Rattle.std.specs.Prelude.{ℕ, ◌+◌, ◌≤◌}
use Rattle.std.proofs.Common.{arith}
use Rattle.cells.specs.Layout.{unit_place}

-- the header
pub header_room : (unit n : ℕ) → unit_place unit + 202 ≤ n → 66 ≤ n
header_room unit n fits = omega arith
