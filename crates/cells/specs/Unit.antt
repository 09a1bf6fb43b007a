-- A fitted unit that was lent: it is the same unit of the same cells, whatever stands in them.
-- Assumes nothing.
use Rattle.std.specs.Prelude.{◌≡◌}
use Rattle.cells.specs.declared.unit.Unit.{Unit}

pub record Same (before after : Unit) : Type 0 where
  pub cells : after.cells.ghost_name ≡ before.cells.ghost_name
  pub number : after.number ≡ before.number
