-- One of the units below `count` has the number, or none.
use Rattle.std.proofs.Common.{rules, tests, refl, arith, ◌∙◌, ℕ, eqb}
use Rattle.std.proofs.lemmas.Iterator.{YieldsList-from_range}
use Rattle.std.proofs.lemmas.Iterator.Search.{any_from_yields_List}
use Rattle.fitting.specs.SetUp.{number_of}
use Rattle.fitting.proofs.Chains.{taken}
use Rattle.fitting.proofs.setup.is_taken.Goals as goal

pub returns : goal.returns
returns c =
    let a = c.args in
    any_from_yields_List (λ (u : ℕ). eqb (number_of a.setup.now u a.k) a.wanted) c.any.new.self _ _ c.any.ensures.ran (YieldsList-from_range 0 a.count a.count refl (omega arith))
    (λ x b q k. search (rules, tests))
    ∙ taken a.setup.now a.k a.wanted a.count
