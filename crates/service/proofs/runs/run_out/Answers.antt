-- Where each test passed, what is put is what so many single moves leave.
use mathlib.Core.List.{List}
use mathlib.Core.Path.{◌≡◌, ap, sym, ◌∙◌}
use mathlib.Core.Bool.{true}
use Prim.Native.Nat.{ℕ, ◌+◌}
use native.Mathlib.Omega.{arith}
use Rattle.cells.specs.Fitted.{transmitter_of}
use Rattle.cells.specs.Layout.{transmitter_place}
use Rattle.codec.specs.Transmitters.{dec_transmitter}
use Rattle.codec.specs.Laws.WindowLaws.{length_window}
use Rattle.plain.specs.Laws.Heads.{head_and_silo}
use Rattle.plain_moves.proofs.Laws.PlainMoves.{out_room}
use Rattle.transmitter.specs.Moves as T
use Rattle.service.proofs.Laws.RunsOut.{Able, ran_out}
use Rattle.service.proofs.runs.run_out.Goals as goal

pub room_by-requires : goal.room_by-requires
room_by-requires c =
    let a = c.args in
    let may : T.may_move (transmitter_of a.cells.now a.unit) ≡ true = sym c.may_move_out.ensures ∙ c.if-not-may_move_out.false in
    rw c.load-head.ensures (out_room a.cells.now (transmitter_place a.unit) (omega arith) may)

pub run_length-n-requires : goal.run_length-n-requires
run_length-n-requires c =
    let p = c.is_plain_out.ensures c.if-not-is_plain_out.false in
    rw c.load-head.ensures (c.requires.2, omega (arith, p.head.low15), omega (arith, p.head.count15), c.if-from-fitted.false)

pub put_words-requires : goal.put_words-requires
put_words-requires c =
    let run = rw c.load-head.ensures at c.run_length-n.ensures in
    let room = rw c.load-head.ensures at c.room_by.ensures in
    (omega arith, omega (arith, run.0, room.0), omega (arith, run.0, room.1), run.2, run.3, omega (arith, run.4, c.memory_length-fitted.ensures, c.requires.1))

pub overflow_cast-result : goal.overflow_cast-result
overflow_cast-result c = omega (arith, c.run_length-n.ensures.1)

pub overflow_add-result : goal.overflow_add-result
overflow_add-result c = omega (arith, c.run_length-n.ensures.1)

pub returns : goal.returns
returns c =
    let n = c.run_length-n.result in
    let run = rw c.load-head.ensures at c.run_length-n.ensures in
    let named = rw c.load-head.ensures at c.place-from.ensures in
    let room = rw c.load-head.ensures at c.room_by.ensures in
    let known = c.slice_known-1.given in
    let a = c.args in
    let cells = a.cells.now in
    let at = transmitter_place a.unit in
    let p = c.is_plain_out.ensures c.if-not-is_plain_out.false in
    let may : T.may_move (transmitter_of cells a.unit) ≡ true = sym c.may_move_out.ensures ∙ c.if-not-may_move_out.false in
    let able : Able cells a.memory.now a.unit n =
    record {
      plain = p.head;
      going = p.going;
      settled = p.settled;
      may = ap (λ (w : List ℕ). T.may_move (dec_transmitter w)) (sym (head_and_silo cells at (omega arith))) ∙ may;
      control16 = omega (arith, known (at + 5));
      crc16 = omega (arith, known (at + 7));
      serial16 = omega (arith, known (at + 8));
      cells64 = length_window cells (at + 9) 64 (omega arith);
      room = omega (arith, run.0, room.0);
      straight = omega (arith, run.0, room.1);
      low15 = run.2;
      count15 = run.3;
      there = omega (arith, run.4, c.memory_length-fitted.ensures, named);
      lends = c.requires.1;
    } in
    rw (c.put_words.ensures, named) (ran_out cells a.memory.now a.unit c.requires.0 a.before n run.1 able)
