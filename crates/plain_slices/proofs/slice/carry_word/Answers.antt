-- The receiver's cells are as they were.
use Prim.Native.Nat.{◌<◌}
use Rattle.plain_slices.specs.Laws.Steps.{still_asked}
use Rattle.plain_slices.proofs.slice.carry_word.Goals as goal

pub store_word-requires : goal.store_word-requires
store_word-requires c =
    let a = c.args in
    let asked = still_asked a.cells.now a.t a.r c.requires.placed _ _ _ _ _ (λ ring since status. (ring < 4096) × (since < 128) × (status < 512)) c.requires.bound.1 in
    rw c.send_word.ensures (record { r_in_bounds = (asked.0, asked.1.0); r_bound = (asked.1.1, asked.1.2) })
