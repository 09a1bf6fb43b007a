-- Two cells put, and then one of the ring's set (`round_put`).
use mathlib.Core.List.{List}
use mathlib.Core.Path.{ap}
use Prim.Native.Nat.{ℕ, ◌+◌, ◌*◌, ◌/◌, ◌%◌}
use native.Mathlib.Omega.{arith}
use Rattle.codec.specs.Rings.{around}
use Rattle.plain.specs.Turn.{first_found}
use Rattle.plain.specs.Laws.TurnLaws.{round_put}
use Rattle.plain.proofs.turn.go_round.Goals as goal

pub returns : goal.returns
returns c =
    let a = c.args in
    let first = first_found a.cells.now a.at a.ring in
    rw (c.put.ensures, c.next_ring.ensures, c.place_behind-back.ensures.0)
    (ap (λ (l : List ℕ). (first, l))
    (round_put a.cells.now a.at (around 50 (a.ring % 64 + 1) + a.ring / 64 * 64) a.word (around 50 (a.ring % 64 + a.ring / 64)) first
    (rw (← c.place_behind-back.ensures.0) c.place_behind-back.ensures.1) (omega arith)))
