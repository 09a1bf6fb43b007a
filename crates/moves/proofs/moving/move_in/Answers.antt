-- The side out of its window, the rule on it and on the memory, and the side put back.
use Rattle.std.specs.Prelude.{Result, Option}
use Rattle.words.specs.declared.answers.Refusal.{Refusal}
use Rattle.moves.specs.Laws.Nothing.{receiver_tells}
use Rattle.cells.specs.Fitted.{receiver_of, put_receiver}
use Rattle.cells.specs.Layout.{memory_length}
use Rattle.receiver.specs.Moves.{Moved}
use mathlib.Core.List.{List}
use mathlib.Core.Path.{ap, ◌∙◌}
use Prim.Native.Nat.{ℕ}
use Rattle.receiver.specs.Laws.Keeps.{within_moved}
use Rattle.moves.proofs.moving.move_in.Goals as goal

pub move_word-moved-requires : goal.move_word-moved-requires
move_word-moved-requires c = record { within = c.side-r.ensures.within; fitted_in_bounds = rw c.memory_length.ensures c.requires.1 }

pub put-requires-clause-within : goal.put-requires-clause-within
put-requires-clause-within c = rw (ap (λ (p : _). p.0.side) c.move_word-moved.ensures) (within_moved _ c.side-r.ensures.within _ _)

pub returns : goal.returns
returns c =
    let by = rw (c.memory_length.ensures, c.side-r.ensures.value) at c.move_word-moved.ensures in
    let told = c.missing_in.ensures (rw (ap (λ (p : Moved × List ℕ). p.0.answer) by) (receiver_tells (receiver_of c.args.cells.now c.args.unit) c.args.memory.now (memory_length c.args.cells.now c.args.unit) c.requires.2)) in
    let left = ap (λ (p : Moved × List ℕ). (p.0.answer, put_receiver c.args.cells.now c.args.unit p.0.side, p.1)) by in
    ap (λ (answer : Result (Option ℕ) Refusal). (answer, c.put.new.cells, c.move_word-moved.new.memory)) told ∙ rw c.put.ensures left
