use Rattle.std.proofs.Common.{◌≡◌, ◌+◌}
use Rattle.std.specs.Slice.Iter.{chunks_rest, chunks_size}
use Rattle.shares.specs.Lists.{count}
use Rattle.shares.proofs.lists.count_in.Given as goal

abbrev pub invariant-loop-part : goal.invariant-loop-part
invariant-loop-part l =
    (goal.iterator-loop-part).can_next l.part-iterator
    × (goal.iterator-loop-part).is_finite l.part-iterator
    × (chunks_size l.part-iterator ≡ 65535)
    × (l.found + count l.address (chunks_rest l.part-iterator) ≡ count l.address l.list)
