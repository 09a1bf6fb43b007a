-- The larger of each share and those before it, as the chain takes it.
use Rattle.std.proofs.Common.{◌≡◌, sym, ap, ◌∙◌, rules, fold}
use Rattle.std.proofs.lemmas.Iterator.Consumers.{fold_from_yields_List}
use Rattle.shares.specs.Arranging.{larger}
use Rattle.shares.specs.Wanted.{shares_in, no_share}
use Rattle.shares.specs.declared.wanted.Share.{Share}
use Rattle.shares.proofs.Laws.ChainLaws.{all_shares, largest_from_is}
use Rattle.shares.proofs.wanted.largest_of.Goals as goal

pub returns : goal.returns
returns c =
    let shares = shares_in c.args.wanted.now in
    let none : c.default.result ≡ no_share = search rules in
    fold_from_yields_List _ larger c.default.result _ c.fold.ensures.ran (all_shares c.shares_in.result _ c.shares_in.ensures) (λ a x b q k. search rules)
    ∙ ap (λ (m : Share). fold larger m shares) none
    ∙ sym (largest_from_is no_share shares)
