-- The better of each turn and those before it, as the chain takes it.
use Rattle.std.proofs.Common.{sym, ap, ◌∙◌, rules}
use Rattle.std.proofs.lemmas.Iterator.Consumers.{fold_from_yields_List}
use Rattle.shares.specs.Lists.{last_of}
use Rattle.shares.specs.Spreading.{turn_of, no_turn, better}
use Rattle.shares.specs.Wanted.{shares_in}
use Rattle.shares.specs.declared.spreading.Turn.{Turn}
use Rattle.shares.proofs.Laws.ChainLaws.{all_shares, best_from_is}
use Rattle.shares.proofs.spreading.Front.next_address.Goals as goal

pub returns : goal.returns
returns c =
    let front = c.args.self.now in
    let list = front.addresses.now in
    let best = fold_from_yields_List _ (λ b s. better (last_of list) b (turn_of front.total front.early list s)) no_turn _ c.fold-best.ensures.ran (all_shares c.shares_in.result _ c.shares_in.ensures) (λ a x b q k. search rules) in
    ap (λ (t : Turn). t.address) (best ∙ sym (best_from_is front.total front.early list no_turn (shares_in c.args.wanted.now)))
