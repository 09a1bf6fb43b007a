-- A test of every address, as the chain makes it.
use Rattle.std.proofs.Common.{sym, ◌∙◌, rules, tests}
use Rattle.std.proofs.lemmas.Iterator.{YieldsList-from_slice}
use Rattle.std.proofs.lemmas.Iterator.Search.{all_from_yields_List}
use Rattle.shares.specs.Refusals.{named}
use Rattle.shares.specs.Wanted.{shares_in}
use Rattle.shares.proofs.Laws.ChainLaws.{all_named_is}
use Rattle.shares.proofs.lists.all_named.Goals as goal

pub returns : goal.returns
returns c =
    let shares = shares_in c.args.wanted.now in
    all_from_yields_List (λ address. named address shares) c.all.new.self _ _ c.all.ensures.ran (YieldsList-from_slice c.args.list.now cc) (λ x b q k. search (rules, tests))
    ∙ sym (all_named_is shares c.args.list.now)
