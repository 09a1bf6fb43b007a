-- The head stored, and the ring as it was.
use mathlib.Core.Path.{◌∙◌}
use native.Mathlib.Omega.{arith}
use Rattle.plain.specs.Laws.Heads.{stored_alone}
use Rattle.plain_slices.proofs.halves.send_due.Goals as goal

pub returns : goal.returns
returns c =
    let a = c.args in
    c.store.ensures ∙ stored_alone a.cells.now a.t _ (omega arith) ∙ rw (c.showing.ensures, c.load-head.ensures)
