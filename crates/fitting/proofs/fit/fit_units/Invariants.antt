use mathlib.Core.Path.{◌≡◌}
use Prim.Native.Nat.{◌≤◌}
use lib.ListN.{length}
use Rattle.fitting.specs.Fit.{units_fitted}
use Rattle.fitting.specs.SetUp.{count_of}
use Rattle.fitting.proofs.fit.fit_units.Given as goal

abbrev pub invariant-loop-unit : goal.invariant-loop-unit
invariant-loop-unit l = (l.unit ≤ l.unit-end) × (l.unit-end ≡ count_of l.setup) × (length l.cells ≡ length l.initial.cells) × (l.cells ≡ units_fitted l.unit l.setup l.initial.cells)
