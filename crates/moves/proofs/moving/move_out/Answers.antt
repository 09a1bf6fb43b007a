-- The side out of its window, the rule on it, and the side put back.
use mathlib.Core.Path.{ap, ◌∙◌}
use Prim.Native.Nat.{ℕ}
use Rattle.std.specs.Prelude.{Result, Option}
use Rattle.words.specs.declared.answers.Refusal.{Refusal}
use Rattle.cells.specs.Fitted.{transmitter_of}
use Rattle.cells.specs.Layout.{memory_length}
use Rattle.moves.specs.Laws.Nothing.{transmitter_tells}
use Rattle.transmitter.specs.Laws.Keeps.{within_moved}
use Rattle.moves.proofs.moving.move_out.Goals as goal

pub move_word-moved-requires : goal.move_word-moved-requires
move_word-moved-requires c = record { within = c.side-t.ensures.within; fitted_in_bounds = rw c.memory_length.ensures c.requires.1 }

pub put-requires-clause-within : goal.put-requires-clause-within
put-requires-clause-within c = rw c.move_word-moved.ensures (within_moved _ c.side-t.ensures.within _ _)

pub returns : goal.returns
returns c =
    let by = rw (c.memory_length.ensures, c.side-t.ensures.value) at c.move_word-moved.ensures in
    let told = c.missing_in.ensures (rw by (transmitter_tells (transmitter_of c.args.cells.now c.args.unit) c.args.memory.now (memory_length c.args.cells.now c.args.unit) c.requires.2)) in
    ap (λ (answer : Result (Option ℕ) Refusal). (answer, c.put.new.cells)) told ∙ rw (c.put.ensures, by)
