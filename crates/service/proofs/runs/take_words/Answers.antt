-- The words into the memory, and then the head.
use mathlib.Core.Path.{◌≡◌, refl}
use Prim.Native.Nat.{◌+◌, ◌-◌}
use native.Mathlib.Omega.{arith}
use lib.ListN.{drop, take, length, length-drop}
use lib.Seq.{length-take-le}
use Rattle.codec.specs.Window.{cell}
use Rattle.plain.specs.Places.{front}
use Rattle.plain.specs.Laws.Heads.{head_alone}
use Rattle.service.specs.Laws.Heads.{with_fewer, head_on}
use Rattle.service.proofs.runs.take_words.Goals as goal

pub returns : goal.returns
returns c =
    let a = c.args in
    let ring = cell a.cells.now a.at in
    let from = a.at + 9 + front ring in
    let source = drop from a.cells.now in
    let e : from + a.n - from ≡ a.n = omega arith in
    let few : length (take a.n source) ≡ a.n = length-take-le a.n source (omega (arith, length-drop from a.cells.now, c.requires.0, c.requires.2)) in (
      rw (c.store.ensures, c.without_oldest.ensures, c.moved_on.ensures, c.load-head.ensures) (head_alone a.cells.now a.at (head_on a.cells.now a.at (with_fewer ring a.n) a.n) refl c.requires.0),
      rw (c.put.ensures, c.front_of.ensures.0, c.load-head.ensures, e, few),
    )
