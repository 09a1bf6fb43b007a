-- The tests on its cells are the side's own.
use native.Mathlib.Omega.{arith}
use Rattle.cells.specs.Layout.{receiver_place}
use Rattle.plain_moves.proofs.Laws.MayMove.{may_in_at}
use Rattle.plain_moves.proofs.moving.may_move_in.Goals as goal

pub returns : goal.returns
returns c =
    let a = c.args in
    rw (c.bit_at.ensures, c.bits_at.ensures, c.load-head.ensures) (may_in_at a.cells.now (receiver_place a.unit) (omega arith))
