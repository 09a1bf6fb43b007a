-- The sum as the chain takes it: no more than 51 at any share.
use Rattle.std.proofs.Common.{◌≡◌, min, ◌∙◌, ◌+◌, rules}
use Rattle.std.proofs.lemmas.Iterator.Consumers.{fold_from_yields_List}
use Rattle.shares.specs.Wanted.{shares_in, total}
use Rattle.shares.proofs.Laws.ChainLaws.{all_shares, capped_total, up_to51_is}
use Rattle.shares.proofs.wanted.total_up_to_51.Goals as goal

pub returns : goal.returns
returns c =
    let shares = shares_in c.args.wanted.now in
    let sum : c.fold.result ≡ min (0 + total shares) 51 = fold_from_yields_List _ (λ n s. min (min (n + s.turns) 65535) 51) 0 _ c.fold.ensures.ran (all_shares c.shares_in.result _ c.shares_in.ensures) (λ a x b q k. search rules) ∙ capped_total 0 shares in
    sum ∙ up_to51_is (total shares)
