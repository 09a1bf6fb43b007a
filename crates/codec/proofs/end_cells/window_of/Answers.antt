-- The words in their ring, and the head before it.
use Rattle.codec.proofs.Laws.CopyLaws.{from_place}
use borrow.Author.Rules.{rules}
use native.Mathlib.Omega.{arith}
use Rattle.std.proofs.Common.{refl}
use Rattle.codec.proofs.end_cells.window_of.Goals as goal

pub returns : goal.returns
returns c =
    let a = c.args in
    let ring = from_place a.cells.now 9 c.lay_silo.new.ring (omega arith) (search rules) in
    rw (ring, c.copy_from_slice.ensures.after, c.head-head.ensures, c.lay_silo.ensures, c.start_for-start.ensures, c.requires.whole) refl
