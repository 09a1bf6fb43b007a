-- The receiver is found or not.
use borrow.Author.Rules.{rules}
use mathlib.Core.Path.{◌∙◌}
use Prim.Native.Nat.{ℕ}
use Rattle.cells.specs.Laws.SearchLaws.{at_unit, at_none}
use Rattle.bus.specs.Slice.{unheard, heard_by}
use Rattle.bus.proofs.slice.serve_acting.Goals as goal

pub returns-in-Some : goal.returns-in-Some
returns-in-Some c =
    let a = c.args in
    c.hear.ensures
    ∙ at_unit (λ (other : ℕ). heard_by a.cells.now a.unit other a.from a.damage.mask a.damage.parity) (unheard a.cells.now a.unit) _ _
    (rw c.destination_at-destination.ensures at c.in-Some.ensures.unit)

pub returns : goal.returns
returns c =
    let a = c.args in
    c.send_unheard-codes.ensures
    ∙ at_none (λ (other : ℕ). heard_by a.cells.now a.unit other a.from a.damage.mask a.damage.parity) (unheard a.cells.now a.unit) _
    (rw c.destination_at-destination.ensures at c.in_default.ensures.unit)
