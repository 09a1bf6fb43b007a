-- A test of every share, as the chain makes it.
use Rattle.std.proofs.Common.{sym, ◌∙◌, rules, tests}
use Rattle.std.proofs.lemmas.Iterator.Search.{any_from_yields_List}
use Rattle.shares.specs.Refusals.{outside}
use Rattle.shares.specs.Wanted.{shares_in}
use Rattle.shares.proofs.Laws.ChainLaws.{all_shares, any_outside_is}
use Rattle.shares.proofs.wanted.any_outside.Goals as goal

pub returns : goal.returns
returns c =
    any_from_yields_List (λ s. outside s.address) c.any.new.self _ _ c.any.ensures.ran (all_shares c.shares_in.result _ c.shares_in.ensures) (λ x b q k. search (rules, tests))
    ∙ sym (any_outside_is (shares_in c.args.wanted.now))
