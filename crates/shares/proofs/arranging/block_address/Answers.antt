-- What is left of the place is a place in the blocks that are left.
use Rattle.std.proofs.Common.{ℕ, ◌-◌, List, get_or, sym, ap, ◌∙◌, arith}
use Rattle.shares.specs.Arranging.{turns_but, blocks_but}
use Rattle.shares.specs.Laws.NearLaws.{in_block, past_block}
use Rattle.shares.specs.Wanted.{shares_in}
use Rattle.shares.specs.declared.wanted.Share.{Share}
use Rattle.shares.proofs.arranging.block_address.Goals as goal

pub returns-then-left-turns : goal.returns-then-left-turns
unfolding blocks_but
returns-then-left-turns c =
    let l = c.loop-share in
    let first = c.args.first.address in
    let share = c.in-Some-share.share in
    let rest = blocks_but first (shares_in c.next.new.self.numbers.now) in
    let more = ap (λ (x : List Share). get_or (blocks_but first x) l.left 0) c.in-Some-share.ensures.steps in
    let turns = c.turns_but-turns.ensures in
    sym (more ∙ in_block (turns_but first share) share.address rest l.left (omega (arith, c.if-left-turns.true))) ∙ l.invariant.2

pub loop-share-preserved : goal.loop-share-preserved
unfolding blocks_but
loop-share-preserved c =
    let l = c.loop-share in
    let first = c.args.first.address in
    let share = c.in-Some-share.share in
    let rest = blocks_but first (shares_in c.next.new.self.numbers.now) in
    let more = ap (λ (x : List Share). get_or (blocks_but first x) l.left 0) c.in-Some-share.ensures.steps in
    let turns = c.turns_but-turns.ensures in (
      tt,
      tt,
      ap (λ (k : ℕ). get_or rest (l.left - k) 0) turns
          ∙ sym (more ∙ past_block (turns_but first share) share.address rest l.left (omega (arith, c.if-left-turns.false)))
          ∙ l.invariant.2,
    )

pub returns : goal.returns
unfolding blocks_but
returns c =
    let l = c.loop-share in
    sym (ap (λ (x : List Share). get_or (blocks_but c.args.first.address x) l.left 0) c.in-None.ensures.steps.0) ∙ l.invariant.2
