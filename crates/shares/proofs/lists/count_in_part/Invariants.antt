use Rattle.std.proofs.Common.{◌≡◌, ◌≤◌, ◌+◌, drop}
use Rattle.shares.specs.Lists.{count}
use Rattle.shares.proofs.lists.count_in_part.Given as goal

abbrev pub invariant-loop-there : goal.invariant-loop-there
invariant-loop-there l = (l.found ≤ l.there-index) × (l.found + count l.address (drop l.there-index l.part) ≡ count l.address l.part)
