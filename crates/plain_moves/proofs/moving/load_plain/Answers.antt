-- Where each test passed, the cells that are put are those of the side that the rule gives.
use Rattle.std.specs.Prelude.{Result, Option}
use mathlib.Core.List.{List}
use mathlib.Core.Path.{ap, sym}
use Prim.Native.Nat.{ℕ}
use native.Mathlib.Omega.{arith}
use Rattle.cells.specs.Layout.{transmitter_place, memory_length}
use Rattle.codec.specs.Window.{splice}
use Rattle.words.specs.declared.answers.Refusal.{Refusal}
use Rattle.plain_moves.proofs.Laws.PlainMoves.{out_plain}
use Rattle.plain_moves.proofs.moving.load_plain.Goals as goal

pub returns-then-from-memory_length : goal.returns-then-from-memory_length
returns-then-from-memory_length c =
    let named = rw c.load-head.ensures at c.place-from.ensures in
    let a = c.args in
    let p = c.is_plain_out.ensures c.if-not-is_plain_out.false in
    let there = rw (named, c.memory_length.ensures) at c.if-from-memory_length.true in
    rw (c.put_word.ensures, named)
    (ap (λ (p : Result (Option ℕ) Refusal × List ℕ). (p.0, splice a.cells.now (transmitter_place a.unit) p.1))
    (sym (out_plain a.cells.now (transmitter_place a.unit) (omega arith) (λ i. omega (arith, c.slice_known-1.given i)) a.memory.now (memory_length a.cells.now a.unit) (omega (arith, there)) p c.requires.2)))
