-- The transmitter out of its window, its slice alone, and the side put back.
use borrow.Author.Rules.{rules}
use mathlib.Core.Path.{ap, ◌∙◌}
use Rattle.slices.specs.Slice.{sent_alone}
use Rattle.slices.specs.Laws.Keeps.{within_alone}
use Rattle.bus.specs.Slice.{put_alone}
use Rattle.bus.proofs.slice.send_unheard.Goals as goal

pub send_alone-alone-requires : goal.send_alone-alone-requires
send_alone-alone-requires c = c.side-t.ensures.within.end.block

pub put-requires-clause-within : goal.put-requires-clause-within
put-requires-clause-within c = rw c.send_alone-alone.ensures (within_alone _ c.side-t.ensures.within)

pub returns : goal.returns
returns c =
    let a = c.args in
    rw c.put.ensures (ap (put_alone a.cells.now a.unit) (c.send_alone-alone.ensures ∙ ap sent_alone c.side-t.ensures.value))
