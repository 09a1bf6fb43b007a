-- The head stored, and then one cell of the ring set.
use mathlib.Core.List.{List}
use mathlib.Core.Path.{ap, ◌∙◌}
use Prim.Native.Nat.{ℕ, ◌+◌}
use native.Mathlib.Omega.{arith}
use lib.ListN.{set}
use Rattle.plain.specs.Laws.Heads.{stored_with_word}
use Rattle.plain_slices.proofs.halves.store_word.Goals as goal

pub returns : goal.returns
returns c =
    let a = c.args in
    ap (λ (l : List ℕ). set l (a.r + 9 + c.behind_of.result) a.word) c.store.ensures
    ∙ stored_with_word a.cells.now a.r _ (omega arith) c.behind_of.result a.word c.behind_of.ensures.1
    ∙ rw (c.behind_of.ensures.0, c.unmarked.ensures, c.showing.ensures, c.load-head.ensures)
