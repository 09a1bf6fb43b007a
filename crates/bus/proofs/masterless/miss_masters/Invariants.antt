use borrow.Author.Rules.{rules}
use mathlib.Core.List.{List}
use mathlib.Core.Path.{◌≡◌, refl, ap, ◌∙◌}
use Prim.Native.Nat.{ℕ, ◌-◌, ◌≤◌}
use native.Mathlib.Numerals.{add-one}
use native.Mathlib.Omega.{arith}
use lib.ListN.{length}
use Rattle.cells.specs.Layout.{count_in}
use Rattle.cells.specs.Laws.FittedLaws.{still_fitted}
use Rattle.cells.specs.Laws.RangeLaws.{in_range_says, fitted}
use Rattle.bus.specs.Masterless.{missed_at, missed_up_to}
use Rattle.bus.proofs.masterless.miss_masters.Given as goal

abbrev pub invariant-loop-unit : goal.invariant-loop-unit
invariant-loop-unit l = (l.unit ≤ l.unit-end) × (l.unit-end ≡ count_in l.initial.cells) × (length l.cells ≡ length l.initial.cells) × (l.cells ≡ missed_up_to l.unit l.initial.cells)
