-- The head stored, and the ring as it was.
use mathlib.Core.Path.{◌∙◌}
use native.Mathlib.Omega.{arith}
use Rattle.plain.specs.Laws.Heads.{stored_alone}
use Rattle.plain_moves.proofs.moving.take_word.Goals as goal

pub returns : goal.returns
returns c =
    let a = c.args in
    let stored = c.store.ensures ∙ stored_alone a.cells.now a.at _ (omega arith) ∙ rw (c.without_oldest.ensures, c.moved_on.ensures, c.load-head.ensures) in
    (stored, rw (c.front_of.ensures.0, c.load-head.ensures))
