-- Move after move: what is collected from here on, with the moves that are left, is what is collected.
use mathlib.Core.Path.{◌≡◌, ◌∙◌}
use Prim.Native.Nat.{◌-◌}
use native.Mathlib.Numerals.{add-one}
use native.Mathlib.Omega.{arith}
use Rattle.std.specs.Prelude.{Some, None, Ok, Err}
use Rattle.words.specs.declared.answers.Refusal.{Refusal}
use Rattle.board.specs.Laws.CollectLaws.{moved, refused, none_left}
use Rattle.board.proofs.collecting.collect.Goals as goal

pub loop-done-preserved : goal.loop-done-preserved
loop-done-preserved c =
    let l = c.loop-done in
    rw add-one (moved c.args.unit l.cells l.memory l.done c.loop-done-test.true c.move_word.ensures (Ok None) (cc) ∙ l.invariant)

pub returns-in-Ok-Some : goal.returns-in-Ok-Some
returns-in-Ok-Some c =
    let l = c.loop-done in
    moved c.args.unit l.cells l.memory l.done c.loop-done-test.true c.move_word.ensures (Ok (Some c.in-Ok-Some.address)) (cc) ∙ l.invariant

pub returns-in-Nothing : goal.returns-in-Nothing
returns-in-Nothing c =
    let l = c.loop-done in
    moved c.args.unit l.cells l.memory l.done c.loop-done-test.true c.move_word.ensures (Err Refusal.Nothing) (cc) ∙ l.invariant

pub returns-in_default : goal.returns-in_default
returns-in_default c =
    let l = c.loop-done in
    refused c.args.unit l.cells l.memory l.done c.loop-done-test.true c.move_word.ensures c.in-Err.refusal c.in-Err.is c.in_default.not-Nothing ∙ l.invariant

pub returns : goal.returns
returns c =
    let l = c.loop-done in
    let all : l.done ≡ 65 = omega (arith, c.loop-done-test.false) in
    let last = none_left (65 - l.done) l.done c.args.unit l.cells l.memory (omega arith) ∙ l.invariant in
    rw all at last
