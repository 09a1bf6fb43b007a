-- The receiver's cells are as they were.
use Prim.Native.Nat.{◌<◌}
use Rattle.plain_slices.specs.Laws.Steps.{still_asked}
use Rattle.plain_slices.proofs.slice.carry_due.Goals as goal

pub take_due-requires : goal.take_due-requires
take_due-requires c =
    let a = c.args in
    rw c.send_due.ensures
    (still_asked a.cells.now a.t a.r c.requires.placed _ _ _ _ _ (λ ring since status. status < 512) c.requires.t_bound.1)
