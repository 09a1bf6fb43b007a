-- Nothing to move, the plain move, or the move by value.
use Rattle.std.specs.Prelude.{not, Result, Option}
use mathlib.Core.List.{List}
use mathlib.Core.Path.{ap, ◌∙◌}
use Prim.Native.Nat.{ℕ}
use Rattle.cells.specs.Fitted.{receiver_of}
use Rattle.cells.specs.Layout.{memory_length}
use Rattle.laws.specs.Pick.{past}
use Rattle.receiver.specs.Moves as R
use Rattle.words.specs.declared.answers.Refusal.{Refusal}
use Rattle.moves.specs.Moving.{receiver_moved_by}
use Rattle.moves.proofs.moving.move_receiver.Goals as goal

pub returns : goal.returns
returns c =
    let kept = rw c.if-store_plain.false at c.store_plain.ensures in
    let unit = c.args.unit in
    past _ (ap not (rw c.may_move_in.ensures at c.if-not-may_move_in.false))
    (c.move_in.ensures
    ∙ ap (λ (l : Result (Option ℕ) Refusal × List ℕ × List ℕ). receiver_moved_by l.1 unit (R.moved (receiver_of l.1 unit) l.2 (memory_length l.1 unit))) kept)
