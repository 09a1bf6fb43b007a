-- Where each test passed, the cells that are put are those of the side that the rule gives, and the word is the oldest.
use Rattle.std.specs.Prelude.{Result, Option}
use mathlib.Core.List.{List}
use mathlib.Core.Path.{ap, sym}
use Prim.Native.Nat.{ℕ}
use native.Mathlib.Omega.{arith}
use Rattle.cells.specs.Layout.{receiver_place, memory_length}
use Rattle.codec.specs.Window.{splice}
use Rattle.words.specs.declared.answers.Refusal.{Refusal}
use Rattle.plain_moves.proofs.Laws.PlainMoves.{in_plain}
use Rattle.plain_moves.proofs.moving.store_plain.Goals as goal

pub returns-then-to-memory_length : goal.returns-then-to-memory_length
returns-then-to-memory_length c =
    let named = rw c.load-head.ensures at c.place-to.ensures in
    let a = c.args in
    let gave = c.take_word-oldest.ensures in
    let p = c.is_plain_in.ensures c.if-not-is_plain_in.false in
    let there = rw (named, c.memory_length.ensures) at c.if-to-memory_length.true in
    rw (gave.0, gave.1, named)
    (ap (λ (l : Result (Option ℕ) Refusal × List ℕ × List ℕ). (l.0, splice a.cells.now (receiver_place a.unit) l.1, l.2))
    (sym (in_plain a.cells.now (receiver_place a.unit) (omega arith) (λ i. omega (arith, c.slice_known-1.given i)) a.memory.now (memory_length a.cells.now a.unit) (omega (arith, there)) p c.requires.2)))
