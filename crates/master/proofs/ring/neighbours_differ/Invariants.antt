-- The addresses from the next one on, after `previous`, differ where the whole ring's do.
use Rattle.std.proofs.Common.{◌≡◌, drop}
use Rattle.master.specs.Ring.{addresses_in, last_of, differ}
use Rattle.master.proofs.ring.neighbours_differ.Given as goal

abbrev pub invariant-loop-word : goal.invariant-loop-word
invariant-loop-word l = differ l.previous (drop l.word-index (addresses_in l.fn.silo)) ≡ differ (last_of (addresses_in l.fn.silo)) (addresses_in l.fn.silo)
