-- Place by place, as the row in turn has it.
use mathlib.Core.Path.{sym, ap, ◌∙◌}
use Prim.Native.Nat.{ℕ}
use native.Mathlib.Omega.{arith}
use lib.ListN.{get_or, length-set}
use Rattle.shares.specs.Arranging.{row_of, woven_from, in_turn}
use Rattle.shares.specs.Wanted.{shares_in}
use Rattle.shares.proofs.Laws.ArrangeLaws.{length_turn, turn_at}
use Rattle.shares.specs.Laws.Walking.{filled_next, filled}
use Rattle.shares.proofs.arranging.arrange.Goals as goal

pub loop-place-preserved : goal.loop-place-preserved
loop-place-preserved c =
    let l = c.loop-place in
    let a = c.args in
    let row = row_of a.first (shares_in a.wanted.now) in
    let long = length_turn row in
    let from = c.source.ensures ∙ ap (λ (h : ℕ). woven_from h l.place) l.invariant.2 in
    let next =
    c.block_address.ensures ∙ ap (λ (k : ℕ). get_or row k 0) from ∙ sym (turn_at row l.place (omega (arith, c.requires))) in
    (l.invariant.0, length-set l.list l.place _ ∙ l.invariant.1, l.invariant.2, filled_next (in_turn row) l.list l.place _ (omega arith) (omega (arith, c.requires)) next l.invariant.3)

pub returns : goal.returns
returns c =
    let l = c.loop-place in
    let a = c.args in
    let row = row_of a.first (shares_in a.wanted.now) in
    let long = length_turn row in
    filled (in_turn row) l.list l.place (omega (arith, c.requires)) (omega arith) l.invariant.3
