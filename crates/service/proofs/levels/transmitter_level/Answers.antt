-- The tests on its cells are the side's own.
use mathlib.Core.Path.{sym, ◌∙◌}
use native.Mathlib.Omega.{arith}
use Rattle.cells.specs.Layout.{transmitter_place}
use Rattle.service.specs.Laws.Levels.{transmitter_silent, transmitter_level_at}
use Rattle.service.proofs.levels.transmitter_level.Goals as goal

pub returns-then-not-bit_at : goal.returns-then-not-bit_at
returns-then-not-bit_at c =
    let a = c.args in
    transmitter_silent a.cells.now (transmitter_place a.unit) (omega arith) (rw c.load-head.ensures at (sym c.bit_at.ensures ∙ c.if-not-bit_at.true))

pub returns : goal.returns
returns c =
    let a = c.args in
    let at = transmitter_place a.unit in
    rw (c.bits_at.ensures, c.bit_at-2.ensures, c.bit_at-3.ensures, c.bit_at-4.ensures, c.bit_at-5.ensures, c.load-head.ensures)
    (transmitter_level_at a.cells.now at (omega arith) (rw c.load-head.ensures at (sym c.bit_at.ensures ∙ c.if-not-bit_at.false)))
