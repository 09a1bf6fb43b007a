use mathlib.Core.Path.{◌≡◌}
use Prim.Native.Nat.{◌≤◌}
use Rattle.cells.specs.Layout.{count_in}
use Rattle.service.specs.Laws.Rows.{Row}
use Rattle.service.proofs.wants.mask_by.Given as goal

abbrev pub invariant-loop-unit : goal.invariant-loop-unit
invariant-loop-unit g l = (l.unit ≤ l.units)
    × (l.units ≡ count_in l.cells)
    × (l.units ≤ 16)
    × Row (g.A.Asked.sends l.cells) l.units l.unit l.senders
    × Row (g.A.Asked.receives l.cells) l.units l.unit l.receivers
