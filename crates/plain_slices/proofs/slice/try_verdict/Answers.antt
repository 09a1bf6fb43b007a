-- It is a good verdict, or nothing is done.
use Rattle.std.proofs.Common.{eqb-true}
use Rattle.plain_slices.specs.Laws.Steps.{in_step_says, carried_verdict}
use Rattle.plain_slices.proofs.slice.try_verdict.Goals as goal

pub returns : goal.returns
returns c =
    let a = c.args in
    let s = in_step_says a.cells.now a.t a.r a.from c.requires.from_value.0 c.requires.from_value.1 in
    let owed = eqb-true _ 1 (rw (c.bit_at.ensures, c.load-receiver.ensures) at c.if-not-bit_at.false) in
    let good = eqb-true _ 1 (rw (c.bit_at-2.ensures, c.load-receiver.ensures) at c.if-not-bit_at-2.false) in
    rw c.carry_verdict.ensures (carried_verdict _ _ _ _ c.requires.placed s c.requires.from_value.2 c.requires.from_value.3 owed good)
