-- Nothing to move; or the runs of plain words, and then single moves.
use Rattle.std.proofs.Common.{not}
use mathlib.Core.Path.{refl, ap, ◌∙◌}
use native.Mathlib.Omega.{arith}
use Rattle.cells.specs.Laws.FittedLaws.{still_fitted}
use Rattle.laws.specs.Pick.{past, here}
use Rattle.service.specs.Transfers.{left_by}
use Rattle.service.specs.Laws.Kept.{still_lent}
use Rattle.service.proofs.transfers.move_all_in.Goals as goal

pub returns-then-not-may_move_in : goal.returns-then-not-may_move_in
returns-then-not-may_move_in c = here _ (rw c.may_move_in.ensures at (ap not c.if-not-may_move_in.true)) refl

pub run_in-words-requires : goal.run_in-words-requires
run_in-words-requires c =
    let ran = c.run_in-first in
    (still_fitted ran.auto.cells c.requires.0, still_lent ran.ensures.length_same ran.ensures.memory_same c.requires.1, ran.ensures.few)

pub go_on_in-requires : goal.go_on_in-requires
go_on_in-requires c =
    let first = c.run_in-first in
    let ran = c.run_in-words in
    (still_fitted (ran.auto.cells ∙ first.auto.cells) c.requires.0, still_lent (ran.ensures.length_same ∙ first.ensures.length_same) (ran.ensures.memory_same ∙ first.ensures.memory_same) c.requires.1, omega (arith, ran.ensures.few))

pub returns : goal.returns
returns c =
    past _ (rw c.may_move_in.ensures at (ap not c.if-not-may_move_in.false))
    (c.go_on_in.ensures ∙ ap left_by (c.run_in-words.ensures.same ∙ c.run_in-first.ensures.same))
