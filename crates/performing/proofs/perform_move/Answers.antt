-- The memory's part goes out and comes back.
use Rattle.std.proofs.Common.{arith, sym, ap, ◌++◌, ◌≡◌, ◌∙◌, ℕ, ◌+◌, ◌-◌, take, drop}
use Rattle.pcl.specs.Sides.{move_call}
use Rattle.performing.specs.Perform.{memory_place, memory_of}
use Rattle.performing.specs.Laws.LineLaws.{move_says, move_line_lem}
use Rattle.performing.proofs.Told.{moved}
use Rattle.performing.proofs.perform_move.Goals as goal
use Rattle.script.specs.declared.lines.Line.{Line}

pub returns : goal.returns
returns c =
    let a = c.args in
    let from = memory_place a.unit in
    let whole : from + 64 - from ≡ 64 = omega arith in
    let p = move_call a.cells.now (memory_of a.unit a.memories.now) a.unit a.side in
    moved a.unit (from + 64 - from) a.memories.now move_says
    (λ (n : ℕ). move_call a.cells.now (take n (drop from a.memories.now)) a.unit a.side) whole c.move_line.ensures
    c.move_word.ensures
    ∙ ap (λ (l : Line). (l, p.1, take from a.memories.now ++ (p.2 ++ drop 64 (drop from a.memories.now))))
    (sym (move_line_lem a.cells.now (memory_of a.unit a.memories.now) a.unit a.side))
