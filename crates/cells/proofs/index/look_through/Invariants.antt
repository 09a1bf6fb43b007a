use mathlib.Core.List.{◌++◌}
use mathlib.Core.Path.{◌≡◌}
use lib.ListN.{length, drop}
use Rattle.codec.specs.Window.{window}
use Rattle.cells.specs.Index.{row, looked_through}
use Rattle.cells.proofs.index.look_through.Given as goal

abbrev pub invariant-loop-i : goal.invariant-loop-i
invariant-loop-i l = (l.i-end ≡ length l.initial.entries) × (length l.entries ≡ length l.initial.entries) × (l.entries ≡ window (row (looked_through l.cells) 64 0) 0 l.i ++ drop l.i l.initial.entries)
