-- The tests on its cells are the side's own, those of one cell beside each other.
use Rattle.std.proofs.Common.{Bool, not, ◌&&◌, ◌≡◌, ◌+◌, ◌∙◌, eqb, arith, rules}
use Rattle.cells.specs.Layout.{transmitter_place}
use Rattle.codec.specs.Window.{cell}
use Rattle.laws.specs.Bits.{bits, bit_at}
use Rattle.plain_moves.proofs.Laws.MayMove.{may_out_at}
use Rattle.plain_moves.specs.Moving.{room_by}
use Rattle.plain_moves.proofs.moving.may_move_out.Goals as goal

by_cell : (loaded no_error room no_read not_ending : Bool)
    → loaded && no_read && no_error && not_ending && room ≡ loaded && no_error && room && no_read && not_ending
by_cell loaded no_error room no_read not_ending = grind rules

pub returns : goal.returns
returns c =
    let cells = c.args.cells.now in
    let at = transmitter_place c.args.unit in
    let control = cell cells (at + 5) in
    let status = cell cells (at + 6) in
    rw (c.bit_at.ensures, c.bit_at-2.ensures, c.bits_at.ensures, c.bit_at-3.ensures, c.bit_at-4.ensures, c.bit_at-5.ensures, c.load-head.ensures)
    (by_cell (bit_at control 14 && bit_at control 1) (eqb (bits status 9 6) 0) (room_by (cell cells at)) (not (bit_at control 7)) (not (bit_at status 8 && bit_at status 6))
    ∙ may_out_at cells at (omega arith))
