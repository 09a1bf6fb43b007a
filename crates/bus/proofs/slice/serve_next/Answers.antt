-- The section goes on to its next address, and the state stays in range.
use borrow.Author.Rules.{rules}
use mathlib.Core.List.{List}
use mathlib.Core.Path.{ap, ◌∙◌}
use Prim.Native.Nat.{ℕ}
use Rattle.cells.specs.Fitted.{master_of, master_cells}
use Rattle.cells.specs.Laws.FittedLaws.{master_within}
use Rattle.cells.specs.Laws.FrameLaws.{in_range_kept}
use Rattle.cells.specs.Laws.PutLaws.{next_part}
use Rattle.codec.specs.Masters.{enc_next}
use Rattle.master.specs.Laws.Laws.{within_next, next_lt}
use Rattle.master.specs.Section.{next_of}
use Rattle.bus.specs.Slice.{served}
use Rattle.bus.proofs.slice.serve_next.Goals as goal

pub serve-requires-clause-cells_value : goal.serve-requires-clause-cells_value
serve-requires-clause-cells_value c =
    let s = c.args.cells.now in
    let m = master_of s c.args.unit in
    let h = master_within _ _ c.requires.fitted in
    rw (ap (λ (x : ℕ × List ℕ). x.1) c.take_next-address.ensures)
    (in_range_kept s _ c.requires.fitted 150 (enc_next (master_cells s c.args.unit) (next_of m).side) (next_part s _ c.requires.fitted _ (within_next m h)) ∙ c.requires.cells_value)

pub serve-requires-clause-address_bound : goal.serve-requires-clause-address_bound
serve-requires-clause-address_bound c =
    rw (ap (λ (x : ℕ × List ℕ). x.0) c.take_next-address.ensures) (next_lt (master_of c.args.cells.now c.args.unit) (master_within _ _ c.requires.fitted))

pub returns : goal.returns
returns c =
    let a = c.args in
    c.serve.ensures
    ∙ ap (λ (x : ℕ × List ℕ). served x.1 x.0 a.damage.mask a.damage.parity) c.take_next-address.ensures
