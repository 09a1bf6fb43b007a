-- The window that was lent is put back in its place.
use Rattle.codec.proofs.Laws.CopyLaws.{spliced}
use native.Mathlib.Omega.{arith}
use borrow.Author.Rules.{rules}
use lib.ListN.{take, drop}
use mathlib.Core.Path.{◌≡◌, ap, ◌∙◌}
use Prim.Native.Nat.{ℕ, ◌+◌, ◌-◌}
use Rattle.codec.specs.Masters.{enc_next}
use Rattle.codec.specs.Window.{splice}
use Rattle.codec.proofs.masters.store_next.Goals as goal

pub returns : goal.returns
returns c =
    let a = c.args in
    let size : a.at + 52 - a.at ≡ 52 = omega arith in
    spliced a.cells.now a.at _ 52 c.encode_next.new.cells size (search rules)
    ∙ ap (splice a.cells.now a.at) c.encode_next.ensures
    ∙ ap (λ (n : ℕ). splice a.cells.now a.at (enc_next (take n (drop a.at a.cells.now)) a.m)) size
