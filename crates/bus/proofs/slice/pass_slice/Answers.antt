-- With no master the rule for it, else the master's slice. The holder is nobody or a fitted unit.
use borrow.Author.Rules.{rules}
use borrow.Author.Tests.{ne_eqb}
use mathlib.Core.List.{List}
use mathlib.Core.Path.{ap, ◌∙◌}
use Prim.Native.Nat.{ℕ}
use native.Mathlib.Omega.{arith}
use Rattle.std.specs.Prelude.{None}
use Rattle.cells.specs.Layout.{holder_in}
use Rattle.cells.specs.Laws.HolderLaws.{held_is, held_none, held_fitted}
use Rattle.cells.specs.Laws.RangeLaws.{in_range_says}
use Rattle.laws.specs.Pick.{past, here}
use Rattle.bus.specs.Slice.{slot_of, master_slice}
use Rattle.bus.proofs.slice.pass_slice.Goals as goal

pub master-requires : goal.master-requires
master-requires c = (in_range_says c.args.cells.now c.requires).header

pub serve_next-requires-clause-fitted : goal.serve_next-requires-clause-fitted
serve_next-requires-clause-fitted c = held_fitted c.args.cells.now _ c.requires c.in-Some.ensures

pub returns-in-Some : goal.returns-in-Some
returns-in-Some c =
    let a = c.args in
    let held = held_is (holder_in a.cells.now) _ c.in-Some.ensures in
    past _ (ne_eqb (holder_in a.cells.now) 0 (omega (arith, held.1)))
    (ap slot_of (c.serve_next.ensures ∙ ap (λ (n : ℕ). master_slice a.cells.now n a.mask a.parity) held.0))

pub returns : goal.returns
returns c = here _ (held_none (holder_in c.args.cells.now) c.in_default.ensures) (ap (λ (l : List ℕ). (None, l)) c.pass_masterless.ensures)
