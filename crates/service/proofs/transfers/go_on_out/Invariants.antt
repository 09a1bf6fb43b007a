use mathlib.Core.Path.{◌≡◌}
use Prim.Native.Nat.{◌≤◌, ◌-◌}
use lib.ListN.{length}
use Rattle.cells.specs.Layout.{memory_length}
use Rattle.service.specs.Transfers.{lent, words_out}
use Rattle.service.proofs.transfers.go_on_out.Given as goal

abbrev pub invariant-loop-words : goal.invariant-loop-words
invariant-loop-words l = (l.words ≤ 65)
    × (length l.cells ≡ length l.initial.cells)
    × (memory_length l.cells l.unit ≡ memory_length l.initial.cells l.unit)
    × (words_out l.unit (65 - l.words) l.words (lent l.cells l.memory) ≡ words_out l.unit (65 - l.before) l.before (lent l.initial.cells l.memory))
