-- Move after move: what comes of the words from here on, with the moves that are left, is what comes of all.
use Rattle.std.specs.Prelude.{Result, Option}
use mathlib.Core.List.{List}
use mathlib.Core.Path.{refl, ap, sym, ◌∙◌}
use Prim.Native.Nat.{ℕ, ◌-◌}
use native.Mathlib.Omega.{arith}
use Rattle.cells.specs.Fitted.{receiver_of}
use Rattle.cells.specs.Layout.{memory_length}
use Rattle.cells.specs.Laws.FittedLaws.{still_fitted}
use Rattle.laws.specs.Laws.Fields.{bit_lt}
use Rattle.words.specs.declared.answers.Refusal.{Refusal}
use Rattle.service.specs.Transfers.{Lent, lent, received_on, left_by, receiver_moved_on, words_with}
use Rattle.service.specs.Laws.Kept.{in_keeps_length}
use Rattle.service.proofs.Laws.Turns.{goes_on, stops, none_left}
use Rattle.service.proofs.transfers.go_on_in.Goals as goal

pub loop-moves-init : goal.loop-moves-init
loop-moves-init c = (omega arith, omega arith, refl, refl, refl, refl)

pub words_with-with-requires : goal.words_with-with-requires
words_with-with-requires c = still_fitted c.loop-moves.invariant.2 c.requires.0

pub move_receiver_by_value-answer-requires : goal.move_receiver_by_value-answer-requires
move_receiver_by_value-answer-requires c =
    let l = c.loop-moves in
    (still_fitted l.invariant.2 c.requires.0, rw (l.invariant.4, l.invariant.3) c.requires.1)

pub returns-then-not-is_done : goal.returns-then-not-is_done
returns-then-not-is_done c =
    let l = c.loop-moves in
    let a = c.args in
    let one = ap received_on c.move_receiver_by_value-answer.ensures in
    ap left_by
    (stops (receiver_moved_on a.unit) (λ (x : Lent). words_with x.cells a.unit) l._moves l.words c.loop-moves-test.true (lent l.cells l.memory) one
    c.ended_by.ensures (sym c.is_done.ensures ∙ c.if-not-is_done.true)
    ∙ l.invariant.5)

pub overflow_add-words : goal.overflow_add-words
overflow_add-words c =
    let l = c.loop-moves in
    omega (arith, l.invariant.0, l.invariant.1, c.words_with-with.ensures, c.loop-moves-test.true, bit_lt (receiver_of l.cells c.args.unit).end.load.loaded)

pub loop-moves-preserved : goal.loop-moves-preserved
loop-moves-preserved c =
    let l = c.loop-moves in
    let a = c.args in
    let after = ap (λ (p : Result (Option ℕ) Refusal × List ℕ × List ℕ). p.1) c.move_receiver_by_value-answer.ensures in
    let one = ap received_on c.move_receiver_by_value-answer.ensures in (
      omega (arith, c.loop-moves-test.true),
      omega (arith, l.invariant.1, c.words_with-with.ensures, bit_lt (receiver_of l.cells a.unit).end.load.loaded),
      omega (arith, c.move_receiver_by_value-answer.auto.cells, l.invariant.2),
      omega (arith, c.move_receiver_by_value-answer.auto.memory, l.invariant.3),
      ap (λ (x : List ℕ). memory_length x a.unit) after
          ∙ in_keeps_length l.cells l.memory a.unit (still_fitted l.invariant.2 c.requires.0)
          ∙ l.invariant.4,
      rw c.words_with-with.ensures
          (goes_on (receiver_moved_on a.unit) (λ (x : Lent). words_with x.cells a.unit) l._moves l.words c.loop-moves-test.true (lent l.cells l.memory) one
          (sym c.is_done.ensures ∙ c.if-not-is_done.false)
          ∙ l.invariant.5),
    )

pub returns : goal.returns
returns c =
    let l = c.loop-moves in
    let a = c.args in
    ap left_by
    (none_left (receiver_moved_on a.unit) (λ (x : Lent). words_with x.cells a.unit) (65 - l._moves) l.words (lent l.cells l.memory) (omega (arith, c.loop-moves-test.false)) ∙ l.invariant.5)
