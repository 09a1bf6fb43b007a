-- The count, and the two products.
use Rattle.std.proofs.Common.{arith}
use Rattle.shares.specs.Laws.Counting.{count_le}
use Rattle.shares.proofs.spreading.Front.turn_of.Goals as goal

pub overflow_cast-had : goal.overflow_cast-had
overflow_cast-had c =
    let front = c.args.self.now in
    omega (arith, c.count_in-had.ensures, count_le c.args.share.address front.addresses.now, c.fits-self)

pub overflow_add-result : goal.overflow_add-result
overflow_add-result c =
    let front = c.args.self.now in
    omega (arith, c.count_in-had.ensures, count_le c.args.share.address front.addresses.now, c.fits-self)
