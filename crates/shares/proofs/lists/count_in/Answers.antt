-- Those found so far, those of a part, and those left are all.
use Rattle.std.proofs.Common.{ap, ◌∙◌, arith, rules}
use Rattle.std.proofs.lemmas.List.{nil_from_length}
use Rattle.std.specs.Slice.Iter.{chunks_rest}
use Rattle.shares.specs.Laws.Counting.{count_append, count_le}
use Rattle.shares.specs.Lists.{count}
use Rattle.shares.proofs.lists.count_in.Goals as goal

pub overflow_add-found : goal.overflow_add-found
overflow_add-found c =
    let a = c.args.address in
    let part = c.in-Some.part.now in
    let cut = ap (count a) c.in-Some.ensures.steps.1.0 ∙ count_append a part (chunks_rest c.next.new.self) in
    omega (arith, c.loop-part.invariant.3, cut, c.from-found.ensures, c.count_in_part.ensures, count_le a c.args.list.now, c.type_inv.list)

pub loop-part-preserved : goal.loop-part-preserved
loop-part-preserved c =
    let a = c.args.address in
    let part = c.in-Some.part.now in
    let steps = c.in-Some.ensures.steps in
    let cut = ap (count a) steps.1.0 ∙ count_append a part (chunks_rest c.next.new.self) in
    (search rules, tt, steps.0 ∙ c.loop-part.invariant.2, omega (arith, c.loop-part.invariant.3, cut, c.from-found.ensures, c.count_in_part.ensures))

pub returns : goal.returns
unfolding count
returns c =
    let none = ap (count c.args.address) (nil_from_length _ c.in-None.ensures.steps.1.0) in
    omega (arith, c.loop-part.invariant.3, none)
