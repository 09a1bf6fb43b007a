-- Each of the units below `count` is good, or not all are.
use Rattle.std.proofs.Common.{rules, tests, refl, arith, ◌∙◌}
use Rattle.std.proofs.lemmas.Iterator.{YieldsList-from_range}
use Rattle.std.proofs.lemmas.Iterator.Search.{all_from_yields_List}
use Rattle.fitting.proofs.Chains.{good_at, good}
use Rattle.fitting.proofs.setup.units_are_good.Goals as goal

pub returns : goal.returns
returns c =
    let a = c.args in
    all_from_yields_List (good_at a.setup.now) c.all.new.self _ _ c.all.ensures.ran (YieldsList-from_range 0 a.count a.count refl (omega arith))
    (λ x b q k. search (rules, tests))
    ∙ good a.setup.now a.count
