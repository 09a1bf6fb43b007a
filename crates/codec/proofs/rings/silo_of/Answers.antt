-- The words in order, and zeros behind them.
use Prim.Native.Nat.{ℕ, ◌≤◌}
use Rattle.codec.specs.Rings.{length_in, in_order}
use Rattle.codec.proofs.Laws.EndLaws.{same_silo}
use Rattle.codec.proofs.Laws.RingLaws.{unrolled_is}
use mathlib.Core.Path.{ap, ◌∙◌}
use native.Mathlib.Omega.{arith}
use Rattle.codec.proofs.rings.silo_of.Goals as goal

pub returns : goal.returns
returns g c =
    let a = c.args in
    let ring = a.ring.now in
    let held = c.length_in-held.result in
    let start = c.start_in-start.result in
    let few : held ≤ 64 = omega (arith, c.length_in-held.ensures, c.requires.size.1) in
    same_silo
    (c.unroll.ensures
    ∙ unrolled_is held start ring few
    ∙ ap (λ (n : ℕ). in_order n start ring) c.length_in-held.ensures
    ∙ ap (λ (n : ℕ). in_order (length_in g.row.N a.cell) n ring) c.start_in-start.ensures)
    c.length_in-held.ensures
