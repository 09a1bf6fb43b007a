-- What the request bit and the ring's cell say, and then the side's own test.
use borrow.Author.Tests.{le-ltb}
use mathlib.Core.Path.{sym, ◌∙◌}
use Rattle.std.proofs.Common.{add-zero, arith}
use Rattle.cells.specs.Layout.{transmitter_place}
use Rattle.codec.specs.Window.{cell}
use Rattle.service.specs.Laws.Levels.{transmitter_rests, transmitter_full}
use Rattle.service.proofs.wants.wants_out.Goals as goal

pub returns-then-not-bit_at : goal.returns-then-not-bit_at
returns-then-not-bit_at c =
    let a = c.args in
    transmitter_rests a.cells.now (transmitter_place a.unit) (omega arith) (sym c.bit_at.ensures ∙ c.if-not-bit_at.true)

pub returns-then-cells-at-ge4096 : goal.returns-then-cells-at-ge4096
returns-then-cells-at-ge4096 c =
    let a = c.args in
    let at = transmitter_place a.unit in
    transmitter_full a.cells.now at (omega arith) (le-ltb (cell a.cells.now at) 4096 (simp add-zero at c.if-cells-at-ge4096.true))
