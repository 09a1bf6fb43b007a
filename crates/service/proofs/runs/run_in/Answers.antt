-- Where each test passed, what is taken is what so many single moves leave.
use mathlib.Core.List.{List}
use mathlib.Core.Path.{◌≡◌, ap, sym, ◌∙◌}
use mathlib.Core.Bool.{true}
use Prim.Native.Nat.{ℕ, ◌+◌}
use native.Mathlib.Omega.{arith}
use lib.ListN.{length-drop}
use Rattle.cells.specs.Fitted.{receiver_of}
use Rattle.cells.specs.Layout.{receiver_place}
use Rattle.codec.specs.Receivers.{dec_receiver}
use Rattle.codec.specs.Window.{cell}
use Rattle.codec.specs.Laws.WindowLaws.{length_window}
use Rattle.plain.specs.Places.{front}
use Rattle.plain.specs.Laws.Heads.{head_and_silo}
use Rattle.receiver.specs.Moves as R
use Rattle.service.proofs.Laws.RunsIn.{Able, ran_in, words_there}
use Rattle.service.proofs.runs.run_in.Goals as goal

pub run_length-n-requires : goal.run_length-n-requires
run_length-n-requires c =
    let p = c.is_plain_in.ensures c.if-not-is_plain_in.false in
    rw c.load-head.ensures (c.requires.2, omega (arith, p.head.low15), omega (arith, p.head.count15), c.if-to-fitted.false)

pub take_words-requires : goal.take_words-requires
take_words-requires c =
    let run = rw c.load-head.ensures at c.run_length-n.ensures in
    let held = rw c.load-head.ensures at c.words_by.ensures in
    (omega arith, omega (arith, run.0, held.0), omega (arith, run.0, held.1), run.2, run.3, omega (arith, run.4, c.memory_length-fitted.ensures, c.requires.1))

pub overflow_cast-result : goal.overflow_cast-result
overflow_cast-result c = omega (arith, c.run_length-n.ensures.1)

pub overflow_add-result : goal.overflow_add-result
overflow_add-result c = omega (arith, c.run_length-n.ensures.1)

pub returns : goal.returns
returns c =
    let gave = c.take_words.ensures in
    let n = c.run_length-n.result in
    let run = rw c.load-head.ensures at c.run_length-n.ensures in
    let named = rw c.load-head.ensures at c.place-to.ensures in
    let held = rw c.load-head.ensures at c.words_by.ensures in
    let known = c.slice_known-1.given in
    let a = c.args in
    let cells = a.cells.now in
    let at = receiver_place a.unit in
    let p = c.is_plain_in.ensures c.if-not-is_plain_in.false in
    let may : R.may_move (receiver_of cells a.unit) ≡ true = sym c.may_move_in.ensures ∙ c.if-not-may_move_in.false in
    let from = at + 9 + front (cell cells at) in
    let able : Able cells a.memory.now a.unit n =
    record {
      plain = p.head;
      whole = p.few;
      may = ap (λ (w : List ℕ). R.may_move (dec_receiver w)) (sym (head_and_silo cells at (omega arith))) ∙ may;
      control16 = omega (arith, known (at + 5));
      status16 = omega (arith, known (at + 6));
      crc16 = omega (arith, known (at + 7));
      serial16 = omega (arith, known (at + 8));
      cells64 = length_window cells (at + 9) 64 (omega arith);
      held = omega (arith, run.0, held.0);
      straight = omega (arith, run.0, held.1);
      low15 = run.2;
      count15 = run.3;
      there = omega (arith, run.4, c.memory_length-fitted.ensures, named);
      lends = c.requires.1;
      enough = omega (arith, length-drop from cells, run.0, held.1);
      words = words_there cells at n (omega (arith, run.0, held.1));
    } in
    rw (gave.0, gave.1, named) (ran_in cells a.memory.now a.unit c.requires.0 a.before n run.1 able)
