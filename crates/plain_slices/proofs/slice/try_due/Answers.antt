-- It is a due CRC that is taken, or nothing is done.
use Rattle.plain_slices.specs.Laws.Steps.{in_step_says, carried_due, clear_at}
use Rattle.plain_slices.proofs.slice.try_due.Goals as goal

pub returns : goal.returns
returns c =
    let a = c.args in
    let s = in_step_says a.cells.now a.t a.r a.from c.requires.from_value.0 c.requires.from_value.1 in
    let owed = clear_at _ (rw (c.bit_at.ensures, c.load-receiver.ensures) at c.if-bit_at.false) in
    let good = clear_at _ (rw (c.bit_at-2.ensures, c.load-receiver.ensures) at c.if-bit_at-2.false) in
    rw c.carry_due.ensures (carried_due _ _ _ _ c.requires.placed s c.requires.from_value.2 c.requires.from_value.3 owed good)
