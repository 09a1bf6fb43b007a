-- The bit of its cell is the side's own.
use mathlib.Core.Path.{sym}
use lib.Dec.{lit<}
use Rattle.cells.specs.Layout.{receiver_place}
use Rattle.codec.specs.Laws.WindowLaws.{cell_window}
use Rattle.laws.specs.Laws.Fields.{bit_on}
use Rattle.service.proofs.transfers.words_with.Goals as goal

pub returns : goal.returns
returns c =
    let a = c.args in
    rw (c.bits_at.ensures, c.load-head.ensures) (sym (rw (cell_window a.cells.now (receiver_place a.unit) 73 5 (lit< tt)) (bit_on _)))
