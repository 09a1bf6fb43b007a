use mathlib.Core.Path.{◌≡◌}
use Prim.Native.Nat.{◌-◌}
use Rattle.board.specs.Collect.{collect_from}
use Rattle.board.proofs.collecting.collect.Given as goal

abbrev pub invariant-loop-done : goal.invariant-loop-done
invariant-loop-done l = collect_from (65 - l.done) l.done l.unit l.cells l.memory ≡ collect_from 65 0 l.unit l.initial.cells l.initial.memory
