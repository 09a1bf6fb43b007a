-- It is a word, or nothing is done.
use mathlib.Core.Path.{ap}
use Prim.Native.Nat.{◌+◌}
use native.Mathlib.Omega.{arith}
use Rattle.codec.specs.declared.head.Head.{Head}
use Rattle.plain_slices.specs.Laws.Steps.{in_step_says, carried_word, clear_at}
use Rattle.plain_slices.proofs.slice.try_word.Goals as goal

pub returns : goal.returns
returns c =
    let s = in_step_says c.args.cells.now c.args.t c.args.r c.args.from c.requires.from_value.0 c.requires.from_value.1 in
    let free = clear_at _ (rw (c.bit_at.ensures, c.load-sender.ensures) at c.if-bit_at.false) in
    let ring = ap (λ (h : Head). h.ring) c.load-receiver.ensures in
    let status16 = s.sixteen (c.args.t + 6) in
    rw c.carry_word.ensures (carried_word _ _ _ _ c.requires.placed s c.requires.from_value.2 (omega arith) (omega arith))
