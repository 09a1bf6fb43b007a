-- The counter's address or the silo's, by AUT ADR (`counted_in_place`, `round_in_place`).
use mathlib.Core.Path.{sym, ◌∙◌}
use Rattle.plain.specs.Laws.TurnLaws.{counted_in_place, round_in_place}
use Rattle.plain.proofs.turn.turn_at.Goals as goal

pub returns-then-bit_at : goal.returns-then-bit_at
returns-then-bit_at c =
    c.count_at.ensures
    ∙ counted_in_place c.args.cells.now c.args.unit c.requires.fitted c.requires.unit_value (sym c.bit_at.ensures ∙ c.if-bit_at.true)

pub returns : goal.returns
returns c =
    c.go_round.ensures
    ∙ round_in_place c.args.cells.now c.args.unit c.requires.fitted c.requires.unit_value (sym c.bit_at.ensures ∙ c.if-bit_at.false)
