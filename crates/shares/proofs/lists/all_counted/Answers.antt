-- A test of every share, as the chain makes it.
use Rattle.std.proofs.Common.{sym, ◌∙◌, rules, tests, eqb}
use Rattle.std.proofs.lemmas.Iterator.Search.{all_from_yields_List}
use Rattle.shares.specs.Lists.{count}
use Rattle.shares.specs.Wanted.{shares_in}
use Rattle.shares.proofs.Laws.ChainLaws.{all_shares, all_counted_is}
use Rattle.shares.proofs.lists.all_counted.Goals as goal

pub returns : goal.returns
returns c =
    let list = c.args.list.now in
    all_from_yields_List (λ s. eqb (count s.address list) s.turns) c.all.new.self _ _ c.all.ensures.ran (all_shares c.shares_in.result _ c.shares_in.ensures) (λ x b q k. search (rules, tests))
    ∙ sym (all_counted_is (shares_in c.args.wanted.now) list)
