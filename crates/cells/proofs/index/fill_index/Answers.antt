-- The entries are found, and put into the header.
use native.Mathlib.Omega.{arith}
use Rattle.cells.specs.Laws.RangeLaws.{in_range_says}
use Rattle.cells.proofs.index.fill_index.Goals as goal

pub put-requires : goal.put-requires
put-requires c = omega (arith, (in_range_says c.args.cells.now c.requires).header, c.look_through.auto.entries)
