use mathlib.Core.List.{◌++◌}
use mathlib.Core.Path.{◌≡◌}
use lib.ListN.{take, drop}
use Rattle.codec.specs.Rings.{round_from}
use Rattle.codec.proofs.rings.unroll.Given as goal

abbrev pub invariant-loop-i : goal.invariant-loop-i
invariant-loop-i l = l.word-items ≡ take l.i (round_from l.start l.ring) ++ drop l.i l.initial.word-items
