use mathlib.Core.Path.{◌≡◌}
use Prim.Native.Nat.{◌-◌, ◌≤◌}
use Rattle.cells.specs.Layout.{count_in}
use Rattle.cells.specs.Search.{number_in, first_found}
use Rattle.cells.proofs.search.find.Given as goal

abbrev pub invariant-loop-u : goal.invariant-loop-u
invariant-loop-u l = (l.units ≡ count_in l.cells) × (l.u ≤ l.units) × (first_found (number_in l.cells l.k) l.wanted (l.units - l.u) l.u ≡ first_found (number_in l.cells l.k) l.wanted (count_in l.cells) 0)

abbrev pub decreases-loop-u : goal.decreases-loop-u
decreases-loop-u l = l.units - l.u
