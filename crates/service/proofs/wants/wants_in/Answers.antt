-- What the request bit says, and then the side's own test.
use mathlib.Core.Path.{sym, ◌∙◌}
use native.Mathlib.Omega.{arith}
use Rattle.cells.specs.Layout.{receiver_place}
use Rattle.service.specs.Laws.Levels.{receiver_rests}
use Rattle.service.proofs.wants.wants_in.Goals as goal

pub returns-then-not-bit_at : goal.returns-then-not-bit_at
returns-then-not-bit_at c =
    let a = c.args in
    receiver_rests a.cells.now (receiver_place a.unit) (omega arith) (rw c.load-head.ensures at (sym c.bit_at.ensures ∙ c.if-not-bit_at.true))
