-- Where nothing was done in place, it goes by value.
use borrow.Author.Rules.{rules}
use Rattle.bus.proofs.slice.hear.Goals as goal

pub returns : goal.returns
returns c = rw c.in_default.ensures at c.exchange_with-codes.ensures
