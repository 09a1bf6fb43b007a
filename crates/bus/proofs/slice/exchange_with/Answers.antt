-- Rule 1, or both sides out of their windows, the slice between them, and both put back.
use borrow.Author.Rules.{rules}
use mathlib.Core.Path.{ap, ◌∙◌}
use Rattle.cells.specs.Fitted.{receiver_of}
use Rattle.laws.specs.Pick.{past, here}
use Rattle.receiver.specs.declared.side.Receiver.{Receiver}
use Rattle.slices.specs.Slice.{exchanged}
use Rattle.slices.specs.Laws.Keeps.{within_transmitter, within_receiver}
use Rattle.transmitter.specs.declared.side.Transmitter.{Transmitter}
use Rattle.bus.specs.Slice.{put_pair}
use Rattle.bus.proofs.slice.exchange_with.Goals as goal

pub returns-then-is_open_with_another : goal.returns-then-is_open_with_another
returns-then-is_open_with_another c = here _ (rw (c.is_open_with_another.ensures, c.side-r.ensures.value) at c.if-is_open_with_another.true) c.send_unheard.ensures

pub exchange-pair-requires : goal.exchange-pair-requires
exchange-pair-requires c = (c.side-t.ensures.within.end.block, c.side-r.ensures.within.end.block)

pub put-requires-clause-within : goal.put-requires-clause-within
put-requires-clause-within c =
    let a = c.args in
    rw c.exchange-pair.ensures (within_transmitter _ c.side-r.result a.from a.damage.mask a.damage.parity c.side-t.ensures.within)

pub put-requires-2-clause-within : goal.put-requires-2-clause-within
put-requires-2-clause-within c =
    let a = c.args in
    rw c.exchange-pair.ensures (within_receiver c.side-t.result _ a.from a.damage.mask a.damage.parity c.side-r.ensures.within c.requires.from_bound)

pub returns : goal.returns
returns c =
    let a = c.args in
    past _ (rw (c.is_open_with_another.ensures, c.side-r.ensures.value) at c.if-is_open_with_another.false)
    (rw (c.put-2.ensures, c.put.ensures)
    (ap (put_pair a.cells.now a.unit a.other)
    (c.exchange-pair.ensures
    ∙ ap (λ (r : Receiver). exchanged c.side-t.result r a.from a.damage.mask a.damage.parity) c.side-r.ensures.value
    ∙ ap (λ (t : Transmitter). exchanged t (receiver_of a.cells.now a.other) a.from a.damage.mask a.damage.parity) c.side-t.ensures.value)))
