-- The transmitters passed have been looked at, and the cells are as many as they were.
use borrow.Author.Rules.{rules}
use mathlib.Core.List.{List}
use mathlib.Core.Path.{◌≡◌, refl, ap, ◌∙◌}
use Prim.Native.Nat.{ℕ, ◌-◌, ◌≤◌}
use native.Mathlib.Numerals.{add-one}
use native.Mathlib.Omega.{arith}
use lib.ListN.{length}
use Rattle.cells.specs.Layout.{count_in}
use Rattle.cells.specs.Laws.FittedLaws.{still_fitted}
use Rattle.cells.specs.Laws.RangeLaws.{in_range_says, fitted}
use Rattle.bus.specs.Masterless.{missed_at, missed_up_to}
use Rattle.bus.proofs.masterless.miss_masters.Goals as goal

pub count-unit-end-requires : goal.count-unit-end-requires
count-unit-end-requires c = (in_range_says c.args.cells.now c.requires).header

pub loop-unit-init : goal.loop-unit-init
unfolding missed_up_to
loop-unit-init c = (omega arith, c.count-unit-end.ensures, refl, refl)

pub miss_at-requires : goal.miss_at-requires
miss_at-requires c =
    let l = c.loop-unit in
    still_fitted l.invariant.2 (fitted c.args.cells.now c.requires l.unit (omega (arith, l.invariant.1, c.loop-unit-test.true)))

pub loop-unit-preserved : goal.loop-unit-preserved
unfolding missed_up_to
loop-unit-preserved c =
    let l = c.loop-unit in
    let done = c.miss_at in (
      omega arith,
      l.invariant.1,
      omega (arith, done.auto.cells, l.invariant.2),
      rw add-one (done.ensures ∙ ap (λ (x : List ℕ). missed_at x l.unit) l.invariant.3),
    )

pub returns : goal.returns
returns c =
    let l = c.loop-unit in
    let a = c.args in
    let e : l.unit ≡ count_in a.cells.now = omega (arith, l.invariant.0, l.invariant.1, c.loop-unit-test.false) in
    l.invariant.3 ∙ ap (λ (n : ℕ). missed_up_to n a.cells.now) e
