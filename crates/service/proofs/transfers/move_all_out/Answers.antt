-- Nothing to move; or the runs of plain words, and then single moves.
use Rattle.std.proofs.Common.{not}
use mathlib.Core.Path.{refl, ap, ◌∙◌}
use native.Mathlib.Omega.{arith}
use Rattle.cells.specs.Laws.FittedLaws.{still_fitted}
use Rattle.laws.specs.Pick.{past, here}
use Rattle.service.specs.Transfers.{cells_left_by}
use Rattle.service.proofs.transfers.move_all_out.Goals as goal

pub returns-then-not-may_move_out : goal.returns-then-not-may_move_out
returns-then-not-may_move_out c = here _ (rw c.may_move_out.ensures at (ap not c.if-not-may_move_out.true)) refl

pub run_out-words-requires : goal.run_out-words-requires
run_out-words-requires c =
    let ran = c.run_out-first in
    (still_fitted ran.auto.cells c.requires.0, rw ran.ensures.length_same c.requires.1, ran.ensures.few)

pub go_on_out-requires : goal.go_on_out-requires
go_on_out-requires c =
    let first = c.run_out-first in
    let ran = c.run_out-words in
    (still_fitted (ran.auto.cells ∙ first.auto.cells) c.requires.0, rw (ran.ensures.length_same, first.ensures.length_same) c.requires.1, omega (arith, ran.ensures.few))

pub returns : goal.returns
returns c =
    past _ (rw c.may_move_out.ensures at (ap not c.if-not-may_move_out.false))
    (c.go_on_out.ensures ∙ ap cells_left_by (c.run_out-words.ensures.same ∙ c.run_out-first.ensures.same))
