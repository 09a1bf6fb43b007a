-- The side out of its window, the rule, and the side put back.
use Rattle.receiver.specs.Laws.Keeps.{within_period}
use Rattle.moves.proofs.periods.pass_at_receiver.Goals as goal

pub put-requires-clause-within : goal.put-requires-clause-within
put-requires-clause-within c = rw c.pass_period.ensures (within_period _ c.side-r.ensures.within)
