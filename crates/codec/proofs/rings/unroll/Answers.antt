-- After i turns `words` has the first i words.
use mathlib.Core.List.{append-nil}
use mathlib.Core.Path.{◌≡◌}
use native.Mathlib.Omega.{arith}
use lib.ListN.{length, take, drop_of_length-le}
use lib.Seq.{length-take-le}
use Rattle.codec.specs.Rings.{round_from}
use Rattle.codec.proofs.Laws.RingLaws.{unrolled}
use Rattle.codec.proofs.rings.unroll.Goals as goal

pub loop-i-preserved : goal.loop-i-preserved
loop-i-preserved c =
    let a = c.args in
    let front = take a.held a.words.now in
    let long : length front ≡ a.held = length-take-le a.held a.words.now (omega arith) in
    rw (c.loop-i.invariant, c.go_around.ensures)
    (unrolled a.ring.now front a.start c.loop-i.i (omega arith) (omega (arith, long)) (omega arith))

pub returns : goal.returns
returns c =
    let a = c.args in
    let front = take a.held a.words.now in
    let long : length front ≡ a.held = length-take-le a.held a.words.now (omega arith) in
    let all : c.loop-i.i ≡ a.held = omega (arith, long) in
    let order = round_from a.start a.ring.now in
    rw (c.loop-i.invariant, all, drop_of_length-le front {i = a.held} (omega (arith, long)), append-nil (take a.held order))
