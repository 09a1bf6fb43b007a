-- The units passed are fitted, and the cells are as many as they were.
use mathlib.Core.Bool.{true}
use mathlib.Core.List.{List}
use mathlib.Core.Path.{◌≡◌, refl, ap, ◌∙◌}
use Prim.Native.Nat.{ℕ, ◌+◌, ◌*◌, ◌≤◌, ◌<◌}
use native.Mathlib.Numerals.{add-one}
use native.Mathlib.Omega.{arith}
use lib.ListN.{length}
use Rattle.cells.specs.Fitted.{Fitted}
use Rattle.cells.specs.Laws.FittedLaws.{still_fitted}
use Rattle.cells.specs.Layout.{unit_place}
use Rattle.fitting.specs.Fit.{units_fitted, unit_of}
use Rattle.fitting.specs.SetUp.{count_of, set_up_good}
use Rattle.fitting.specs.Laws.SetUpLaws.{UnitGood, good_says}
use Rattle.fitting.proofs.fit.fit_units.Goals as goal

-- what is known of the unit of this turn
record Turn (setup cells : List ℕ) (unit : ℕ) : Type 0 where
  pub good : UnitGood setup unit
  pub long : unit * 4 + 4 ≤ length setup
  pub there : Fitted cells unit

turn : {setup cells : List ℕ} {unit n : ℕ} → set_up_good setup ≡ true → unit_place (count_of setup) ≤ length cells → n ≡ count_of setup → unit < n → Turn setup cells unit
turn {setup} {cells} {unit} {n} good room e less =
    let g = good_says setup good in
    let m = g.most in
    record { good = g.units unit (omega arith); long = omega arith; there = record { number = omega arith; room = omega arith } }

pub loop-unit-init : goal.loop-unit-init
unfolding units_fitted
loop-unit-init c = (omega arith, refl, refl, refl)

pub of-requires : goal.of-requires
of-requires c = let t = turn c.requires.setup_value c.requires.setup_in_bounds c.loop-unit.invariant.1 c.loop-unit-test.true in (t.there.number, t.long)

pub fit_unit-requires : goal.fit_unit-requires
fit_unit-requires c =
    let t = turn c.requires.setup_value c.requires.setup_in_bounds c.loop-unit.invariant.1 c.loop-unit-test.true in
    let g = t.good in
    let n = c.of.ensures in record {
      fitted = still_fitted c.loop-unit.invariant.2 t.there;
      addresses = omega (arith, n.transmitter, n.receiver, g.transmitter.0, g.transmitter.1, g.receiver.0, g.receiver.1);
      switch = omega (arith, n.switch, g.switch.0, g.switch.1);
      memory = omega (arith, n.memory, g.memory.0, g.memory.1);
    }

pub loop-unit-preserved : goal.loop-unit-preserved
unfolding units_fitted
loop-unit-preserved c =
    let l = c.loop-unit in
    let a = c.args in
    let done = c.fit_unit in (
      omega arith,
      l.invariant.1,
      omega (arith, done.auto.cells, l.invariant.2),
      rw add-one
          (done.ensures
          ∙ rw (c.of.ensures.transmitter, c.of.ensures.receiver, c.of.ensures.switch, c.of.ensures.memory)
          (ap (λ (x : List ℕ). unit_of a.setup.now x l.unit) l.invariant.3)),
    )

pub shape_of-cells : goal.shape_of-cells
shape_of-cells c = c.loop-unit.invariant.2

pub returns : goal.returns
returns c =
    let l = c.loop-unit in
    let a = c.args in
    let e : l.unit ≡ count_of a.setup.now = omega (arith, l.invariant.1, c.loop-unit-test.false) in
    l.invariant.3 ∙ ap (λ (n : ℕ). units_fitted n a.setup.now a.cells.now) e
