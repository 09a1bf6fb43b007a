use Rattle.std.proofs.Common.{◌≡◌}
use Rattle.shares.specs.Refusals.{any_twice}
use Rattle.shares.specs.Wanted.{shares_in}
use Rattle.shares.proofs.wanted.any_twice.Given as goal

abbrev pub invariant-loop-share : goal.invariant-loop-share
invariant-loop-share l = any_twice (shares_in l.left.numbers.now) ≡ any_twice (shares_in l.wanted)
