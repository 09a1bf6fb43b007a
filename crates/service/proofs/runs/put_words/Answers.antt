-- The head, and then the words behind those held.
use mathlib.Core.Path.{◌≡◌, refl}
use Prim.Native.Nat.{◌+◌, ◌-◌}
use native.Mathlib.Omega.{arith}
use lib.ListN.{drop, length-drop}
use Rattle.codec.specs.Window.{cell}
use Rattle.plain.specs.Places.{behind}
use Rattle.service.specs.Laws.Heads.{with_more, head_on, head_then_words}
use Rattle.service.proofs.runs.put_words.Goals as goal

pub returns : goal.returns
returns c =
    let a = c.args in
    let ring = cell a.cells.now a.at in
    let e : a.from + a.n - a.from ≡ a.n = omega arith in
    rw (c.put.ensures, c.store.ensures, c.behind_of.ensures.0, c.moved_on.ensures, c.load-head.ensures, e)
    (head_then_words a.cells.now a.at (head_on a.cells.now a.at (with_more ring a.n) a.n) refl c.requires.0 (behind ring) (drop a.from a.memory.now) a.n c.requires.2
    (omega (arith, length-drop a.from a.memory.now, c.requires.5)))
