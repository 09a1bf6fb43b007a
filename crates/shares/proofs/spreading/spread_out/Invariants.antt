use mathlib.Core.Path.{◌≡◌}
use Prim.Native.Nat.{◌≤◌}
use lib.ListN.{length, take}
use Rattle.shares.specs.Spreading.{spread}
use Rattle.shares.specs.Wanted.{shares_in}
use Rattle.shares.proofs.spreading.spread_out.Given as goal

abbrev pub invariant-loop-place : goal.invariant-loop-place
invariant-loop-place l = (l.place-end ≡ length l.initial.list) × (length l.list ≡ length l.initial.list) × (l.total ≡ length l.initial.list) × (l.place ≤ length l.initial.list)
    × (take l.place l.list ≡ spread (length l.initial.list) l.early (shares_in l.wanted) l.place)
