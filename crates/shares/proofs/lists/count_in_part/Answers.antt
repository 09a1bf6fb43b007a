-- Those found so far and those left are all.
use Rattle.std.specs.Prelude.{◌≡◌, refl, eqb, get_or}
use Rattle.std.proofs.Common.{ap, ◌∙◌, arith}
use Rattle.laws.specs.Pick.{by}
use Rattle.shares.specs.Laws.Counting.{same_le}
use Rattle.shares.specs.Laws.Walking.{next, no_next}
use Rattle.shares.specs.Lists.{same, count}
use Rattle.shares.proofs.lists.count_in_part.Goals as goal

pub loop-there-preserved : goal.loop-there-preserved
unfolding count
loop-there-preserved c =
    let l = c.loop-there in
    let part = c.args.part.now in
    let a = c.args.address in
    let there = get_or part l.there-index 0 in
    let more = ap (count a) (next part 0 l.there-index (omega arith)) in
    let one : c.from-found.result ≡ same there a = c.from-found.ensures ∙ by (eqb there a) (λ e. rw e refl) (λ e. rw e refl) in
    let little = same_le there a in
    (omega (arith, l.invariant.0), omega (arith, l.invariant.1))

pub returns : goal.returns
unfolding count
returns c =
    let l = c.loop-there in
    let none = ap (count c.args.address) (no_next c.args.part.now 0 l.there-index (omega arith)) in
    omega (arith, l.invariant.1)
