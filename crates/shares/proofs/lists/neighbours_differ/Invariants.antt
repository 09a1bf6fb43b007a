use Rattle.std.proofs.Common.{◌≡◌, drop}
use Rattle.shares.specs.Lists.{last_of}
use Rattle.shares.specs.Tested.{differ}
use Rattle.shares.proofs.lists.neighbours_differ.Given as goal

abbrev pub invariant-loop-address : goal.invariant-loop-address
invariant-loop-address l = differ l.previous (drop l.address-index l.list) ≡ differ (last_of l.list) l.list
