use mathlib.Core.Path.{◌≡◌}
use lib.ListN.{take}
use Rattle.codec.specs.Rings.{laid_from}
use Rattle.codec.proofs.rings.lay.Given as goal

abbrev pub invariant-loop-i : goal.invariant-loop-i
invariant-loop-i l = l.ring ≡ laid_from l.start (take l.i (take l.held l.words)) l.initial.ring
