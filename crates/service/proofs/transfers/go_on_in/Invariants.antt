use mathlib.Core.Path.{◌≡◌}
use Prim.Native.Nat.{◌≤◌, ◌-◌}
use lib.ListN.{length}
use Rattle.cells.specs.Layout.{memory_length}
use Rattle.service.specs.Transfers.{lent, words_in}
use Rattle.service.proofs.transfers.go_on_in.Given as goal

abbrev pub invariant-loop-moves : goal.invariant-loop-moves
invariant-loop-moves l = (l._moves ≤ 65)
    × (l.words ≤ l._moves)
    × (length l.cells ≡ length l.initial.cells)
    × (length l.memory ≡ length l.initial.memory)
    × (memory_length l.cells l.unit ≡ memory_length l.initial.cells l.unit)
    × (words_in l.unit (65 - l._moves) l.words (lent l.cells l.memory) ≡ words_in l.unit (65 - l.before) l.before (lent l.initial.cells l.initial.memory))
