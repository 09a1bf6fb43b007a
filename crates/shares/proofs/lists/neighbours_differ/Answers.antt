-- The addresses from a place on, after `previous`, differ where the whole ring's do.
use borrow.Author.Tests.{eq-eqb, ne_eqb}
use mathlib.Core.Path.{sym, ap, ◌∙◌}
use native.Mathlib.Omega.{arith}
use Rattle.shares.specs.Tested.{differ}
use Rattle.shares.specs.Laws.Walking.{next, no_next}
use Rattle.shares.proofs.lists.neighbours_differ.Goals as goal

pub returns-then-address-previous : goal.returns-then-address-previous
unfolding differ
returns-then-address-previous c =
    let l = c.loop-address in
    let list = c.args.list.now in
    let more = ap (differ l.previous) (next list 0 l.address-index (omega arith)) in
    sym (more ∙ rw (eq-eqb _ _ c.if-address-previous.true)) ∙ l.invariant

pub loop-address-preserved : goal.loop-address-preserved
unfolding differ
loop-address-preserved c =
    let l = c.loop-address in
    let list = c.args.list.now in
    let more = ap (differ l.previous) (next list 0 l.address-index (omega arith)) in
    sym (more ∙ rw (ne_eqb _ _ c.if-address-previous.false)) ∙ l.invariant

pub returns : goal.returns
unfolding differ
returns c =
    let l = c.loop-address in
    let list = c.args.list.now in
    sym (ap (differ l.previous) (no_next list 0 l.address-index (omega arith))) ∙ l.invariant
