use mathlib.Core.Path.{◌≡◌}
use Prim.Native.Nat.{◌≤◌}
use lib.ListN.{length}
use lib.Seq.{sets}
use Rattle.script.specs.SetUps.{units_at}
use Rattle.script.proofs.setups.put_units.Given as goal

abbrev pub invariant-loop-unit : goal.invariant-loop-unit
invariant-loop-unit l = (l.unit ≤ l.count) × (length l.numbers ≡ length l.initial.numbers) × (l.numbers ≡ sets l.initial.numbers 0 (units_at l.unit l.bytes))
