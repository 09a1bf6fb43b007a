-- Unit after unit.
use mathlib.Core.List.{List}
use mathlib.Core.Path.{refl, ap, ◌∙◌}
use Prim.Native.Nat.{ℕ, ◌*◌}
use native.Mathlib.Omega.{arith}
use lib.ListN.{length}
use lib.Seq.{sets, length-sets}
use Rattle.script.specs.SetUps.{unit_at, units_at}
use Rattle.script.proofs.Runs.{one_unit}
use Rattle.script.proofs.setups.put_units.Goals as goal

pub loop-unit-init : goal.loop-unit-init
unfolding units_at
loop-unit-init c = (omega arith, refl, refl)

pub loop-unit-preserved : goal.loop-unit-preserved
loop-unit-preserved c =
    let l = c.loop-unit in
    let a = c.args in
    let e = c.put_unit.ensures ∙ ap (λ (x : List ℕ). sets x (4 * l.unit) (unit_at a.bytes.now (3 * l.unit))) l.invariant.2
    ∙ one_unit l.unit a.bytes.now a.numbers.now in
    (omega arith, ap length e ∙ simp length-sets, e)
