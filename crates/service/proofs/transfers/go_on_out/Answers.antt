-- Move after move: what comes of the words from here on, with the moves that are left, is what comes of all.
use Rattle.std.specs.Prelude.{Result, Ok, Option, None}
use mathlib.Core.List.{List}
use mathlib.Core.Path.{◌≡◌, refl, ap, sym, ◌∙◌}
use Prim.Native.Nat.{ℕ, ◌-◌}
use native.Mathlib.Omega.{arith}
use Rattle.cells.specs.Layout.{memory_length}
use Rattle.cells.specs.Laws.FittedLaws.{still_fitted}
use Rattle.words.specs.declared.answers.Refusal.{Refusal}
use Rattle.service.specs.Transfers.{Lent, lent, sent_on, transmitter_moved_on, cells_left_by}
use Rattle.service.specs.Laws.Kept.{out_keeps_length}
use Rattle.service.proofs.Laws.Turns.{goes_on, stops, none_left}
use Rattle.service.proofs.transfers.go_on_out.Goals as goal

pub loop-words-init : goal.loop-words-init
loop-words-init c = (omega arith, refl, refl, refl)

pub move_transmitter_by_value-answer-requires : goal.move_transmitter_by_value-answer-requires
move_transmitter_by_value-answer-requires c =
    let i = c.loop-words.invariant in
    (still_fitted i.1 c.requires.0, rw i.2 c.requires.1)

pub returns-then-not-is_done : goal.returns-then-not-is_done
returns-then-not-is_done c =
    let l = c.loop-words in
    let a = c.args in
    ap cells_left_by
    (stops (transmitter_moved_on a.unit) (λ (x : Lent). 1) l.words l.words c.loop-words-test.true (lent l.cells a.memory.now) (ap (sent_on a.memory.now) c.move_transmitter_by_value-answer.ensures)
    c.ended_by.ensures (sym c.is_done.ensures ∙ c.if-not-is_done.true)
    ∙ l.invariant.3)

pub loop-words-preserved : goal.loop-words-preserved
loop-words-preserved c =
    let l = c.loop-words in
    let a = c.args in
    let after = ap (λ (p : Result (Option ℕ) Refusal × List ℕ). p.1) c.move_transmitter_by_value-answer.ensures in (
      omega (arith, c.loop-words-test.true),
      omega (arith, c.move_transmitter_by_value-answer.auto.cells, l.invariant.1),
      ap (λ (x : List ℕ). memory_length x a.unit) after
          ∙ out_keeps_length l.cells a.memory.now a.unit (still_fitted l.invariant.1 c.requires.0)
          ∙ l.invariant.2,
      goes_on (transmitter_moved_on a.unit) (λ (x : Lent). 1) l.words l.words c.loop-words-test.true (lent l.cells a.memory.now) (ap (sent_on a.memory.now) c.move_transmitter_by_value-answer.ensures)
          (sym c.is_done.ensures ∙ c.if-not-is_done.false)
          ∙ l.invariant.3,
    )

pub returns : goal.returns
returns c =
    let l = c.loop-words in
    let a = c.args in
    let all : l.words ≡ 65 = omega (arith, c.loop-words-test.false) in
    ap (λ (words : ℕ). (Ok (record { words = words; missing = None }), l.cells)) (sym all)
    ∙ ap cells_left_by
    (none_left (transmitter_moved_on a.unit) (λ (x : Lent). 1) (65 - l.words) l.words (lent l.cells a.memory.now) (omega (arith, c.loop-words-test.false)) ∙ l.invariant.3)
