-- A test of every share, as the chain makes it.
use Rattle.std.proofs.Common.{sym, ◌∙◌, rules, tests, eqb}
use Rattle.std.proofs.lemmas.Iterator.Search.{any_from_yields_List}
use Rattle.shares.specs.Wanted.{shares_in}
use Rattle.shares.proofs.Laws.ChainLaws.{all_shares, named_is}
use Rattle.shares.proofs.wanted.names.Goals as goal

pub returns : goal.returns
returns c =
    any_from_yields_List (λ s. eqb s.address c.args.address) c.any.new.self _ _ c.any.ensures.ran (all_shares c.shares_in.result _ c.shares_in.ensures) (λ x b q k. search (rules, tests))
    ∙ sym (named_is c.args.address (shares_in c.args.wanted.now))
