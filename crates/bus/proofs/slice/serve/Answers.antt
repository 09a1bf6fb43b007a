-- The transmitter is found or not.
use borrow.Author.Rules.{rules}
use mathlib.Core.Path.{ap, ◌∙◌}
use Prim.Native.Nat.{ℕ}
use Rattle.cells.specs.Laws.SearchLaws.{at_unit, at_none}
use Rattle.words.specs.Codes.{no_codes}
use Rattle.words.specs.declared.codes.Codes.{Codes}
use Rattle.bus.specs.Slice.{given, slice_of}
use Rattle.bus.proofs.slice.serve.Goals as goal

pub returns-in-Some : goal.returns-in-Some
returns-in-Some c =
    let a = c.args in
    ap (given a.address) c.serve_unit.ensures
    ∙ at_unit (λ (unit : ℕ). given a.address (slice_of a.cells.now unit a.address a.damage.mask a.damage.parity)) (given a.address (no_codes, a.cells.now)) _ _ c.in-Some.ensures.unit

pub returns : goal.returns
returns c =
    let a = c.args in
    ap (λ (x : Codes). given a.address (x, a.cells.now)) c.none.ensures
    ∙ at_none (λ (unit : ℕ). given a.address (slice_of a.cells.now unit a.address a.damage.mask a.damage.parity)) (given a.address (no_codes, a.cells.now)) _ c.in_default.ensures.unit
