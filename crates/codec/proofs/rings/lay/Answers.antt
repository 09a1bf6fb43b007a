-- After i turns the ring has the first i words.
use mathlib.Core.List.{List}
use mathlib.Core.Path.{◌≡◌, sym, ap, ◌∙◌}
use Prim.Native.Nat.{ℕ}
use native.Mathlib.Omega.{arith}
use lib.ListN.{length, take}
use lib.Seq.{length-take-le, take_all}
use Rattle.codec.specs.Rings.{laid_from}
use Rattle.codec.proofs.Laws.RingLaws.{laid_none, laid_more}
use Rattle.codec.proofs.rings.lay.Goals as goal

pub loop-i-init : goal.loop-i-init
loop-i-init c = let a = c.args in sym (laid_none a.ring.now a.start (omega arith))

pub loop-i-preserved : goal.loop-i-preserved
loop-i-preserved c =
    let a = c.args in
    let front = take a.held a.words.now in
    let long : length front ≡ a.held = length-take-le a.held a.words.now (omega arith) in
    rw (c.loop-i.invariant, c.go_around.ensures) (laid_more a.ring.now a.start (omega arith) front c.loop-i.i (omega arith) (omega (arith, long)))

pub returns : goal.returns
returns c =
    let a = c.args in
    c.loop-i.invariant ∙ ap (λ (l : List ℕ). laid_from a.start l a.ring.now) (take_all c.loop-i.i (take a.held a.words.now) (omega arith))
