-- The answer over all the units is the answer over those that are left.
use borrow.Author.Tests.{eq-eqb, ne_eqb}
use mathlib.Core.Path.{◌≡◌, refl, ap, sym, ◌∙◌}
use Prim.Native.Nat.{◌-◌, ◌<◌}
use native.Mathlib.Omega.{arith}
use Rattle.cells.specs.Search.{number_in, named, first_found}
use Rattle.cells.specs.Laws.RangeLaws.{in_range_says, fitted}
use Rattle.cells.specs.Laws.SearchLaws.{named_unit}
use Rattle.cells.proofs.Turn.{turn}
use Rattle.cells.proofs.search.find.Goals as goal

pub count-units-requires : goal.count-units-requires
count-units-requires c = (in_range_says c.args.cells.now c.requires).header

pub number_in-requires : goal.number_in-requires
number_in-requires c =
    let l = c.loop-u in
    fitted c.args.cells.now c.requires l.u (omega (arith, l.invariant.0, l.invariant.1, c.if-u-units.false))

pub loop-u-preserved : goal.loop-u-preserved
loop-u-preserved c =
    let a = c.args in
    let l = c.loop-u in
    let units = c.count-units.result in
    let h : l.u < units = omega arith in
    (l.invariant.0, omega arith, sym (turn (number_in a.cells.now a.k) a.wanted units l.u h ∙ rw (← c.number_in.ensures, ne_eqb _ _ c.if-number_in-wanted.false)) ∙ l.invariant.2)

pub returns-then-u-units-clause-unit : goal.returns-then-u-units-clause-unit
unfolding first_found
returns-then-u-units-clause-unit c =
    let l = c.loop-u in
    let e : c.count-units.result - l.u ≡ 0 = omega arith in
    rw (← l.invariant.2, e)

pub returns-then-number_in-wanted-clause-unit : goal.returns-then-number_in-wanted-clause-unit
returns-then-number_in-wanted-clause-unit c =
    let a = c.args in
    let l = c.loop-u in
    let units = c.count-units.result in
    let h : l.u < units = omega arith in
    let most = (in_range_says a.cells.now c.requires).most in
    let first : first_found (number_in a.cells.now a.k) a.wanted (units - l.u) l.u ≡ l.u =
    rw (turn (number_in a.cells.now a.k) a.wanted units l.u h, ← c.number_in.ensures, eq-eqb _ _ c.if-number_in-wanted.true) refl in
    named_unit l.u (omega (arith, l.invariant.0)) ∙ ap named (sym first ∙ l.invariant.2)

pub returns-then-number_in-wanted-clause-fitted : goal.returns-then-number_in-wanted-clause-fitted
returns-then-number_in-wanted-clause-fitted c =
    let l = c.loop-u in
    fitted c.args.cells.now c.requires l.u (omega (arith, l.invariant.0, l.invariant.1, c.if-u-units.false))
