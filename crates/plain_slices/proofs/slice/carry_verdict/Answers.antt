-- The receiver's cells are as they were.
use Prim.Native.Nat.{◌≤◌, ◌<◌}
use Rattle.plain_slices.specs.Laws.Steps.{still_asked}
use Rattle.plain_slices.proofs.slice.carry_verdict.Goals as goal

pub restart_receiver-requires : goal.restart_receiver-requires
restart_receiver-requires c =
    let a = c.args in
    let asked = still_asked a.cells.now a.t a.r c.requires.placed _ _ _ _ _ (λ ring since status. (320 ≤ status) × (status < 512)) c.requires.bound in
    rw c.restart_sender.ensures (asked.0, asked.1.0, asked.1.1)
