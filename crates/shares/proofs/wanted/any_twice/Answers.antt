-- What is left names the share that was taken, or is what there was.
use Rattle.std.proofs.Common.{sym, ap, ◌∙◌}
use Rattle.shares.specs.Refusals.{any_twice}
use Rattle.shares.proofs.wanted.any_twice.Goals as goal

pub returns-then-names : goal.returns-then-names
unfolding any_twice
returns-then-names c =
    let here = sym c.names.ensures ∙ c.if-names.true in
    sym (ap any_twice c.in-Some.ensures.steps ∙ rw here) ∙ c.loop-share.invariant

pub loop-share-preserved : goal.loop-share-preserved
unfolding any_twice
loop-share-preserved c =
    let here = sym c.names.ensures ∙ c.if-names.false in
    sym (ap any_twice c.in-Some.ensures.steps ∙ rw here) ∙ c.loop-share.invariant

pub returns : goal.returns
unfolding any_twice
returns c = sym (ap any_twice c.in_default.ensures.steps.0) ∙ c.loop-share.invariant
