-- What was carried in place is the slice; a damaged one is left alone.
use borrow.Author.Rules.{rules}
use Rattle.bus.specs.Laws.PlainLaws.{placed, heard_tried}
use Rattle.bus.proofs.slice.carry_undamaged.Goals as goal

pub carry-requires : goal.carry-requires
carry-requires c = placed _ _ _ c.requires.0 c.requires.1

pub returns : goal.returns
returns c = rw (c.if-damage-ne0.false, c.if-damage.false) (heard_tried _ _ _ _ _ _ c.carry.ensures)
