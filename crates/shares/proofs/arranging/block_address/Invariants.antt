use Rattle.std.proofs.Common.{◌≡◌, get_or}
use Rattle.shares.specs.Arranging.{blocks_but, row_of}
use Rattle.shares.specs.Wanted.{shares_in}
use Rattle.shares.proofs.arranging.block_address.Given as goal

abbrev pub invariant-loop-share : goal.invariant-loop-share
invariant-loop-share l =
    (goal.iterator-loop-share).can_next l.share-iterator
    × (goal.iterator-loop-share).is_finite l.share-iterator
    × (get_or (blocks_but l.first.address (shares_in l.share-iterator.numbers.now)) l.left 0 ≡ get_or (row_of l.first (shares_in l.wanted)) l.place 0)
