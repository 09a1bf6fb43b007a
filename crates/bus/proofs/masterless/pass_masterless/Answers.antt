-- A unit with SEC is found or not.
use borrow.Author.Rules.{rules}
use mathlib.Core.Path.{◌∙◌}
use Rattle.cells.specs.Layout.{count_in}
use Rattle.cells.specs.Laws.SearchLaws.{at_unit, at_none}
use Rattle.bus.specs.Masterless.{taken_over_by, missed_up_to}
use Rattle.bus.proofs.masterless.pass_masterless.Goals as goal

pub returns-in-Some : goal.returns-in-Some
returns-in-Some c =
    let s = c.args.cells.now in
    c.take_over.ensures ∙ at_unit (taken_over_by s) (missed_up_to (count_in s) s) _ _ c.in-Some.ensures.unit

pub returns : goal.returns
returns c =
    let s = c.args.cells.now in
    c.miss_masters.ensures ∙ at_none (taken_over_by s) (missed_up_to (count_in s) s) _ c.in_default.ensures.unit
