use mathlib.Core.Path.{◌≡◌}
use Prim.Native.Nat.{◌+◌, ◌/◌}
use lib.ListN.{length, take}
use Rattle.shares.specs.Arranging.{row_of, in_turn}
use Rattle.shares.specs.Wanted.{shares_in}
use Rattle.shares.proofs.arranging.arrange.Given as goal

abbrev pub invariant-loop-place : goal.invariant-loop-place
invariant-loop-place l = (l.place-end ≡ length l.initial.list) × (length l.list ≡ length l.initial.list) × (l.half ≡ (length (row_of l.first (shares_in l.wanted)) + 1) / 2)
    × (take l.place l.list ≡ take l.place (in_turn (row_of l.first (shares_in l.wanted))))
