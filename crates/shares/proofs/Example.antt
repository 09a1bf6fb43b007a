-- Three loads, as the prover computes them: one with a list, one with a list though two transmitters want nearly half each, and one with
-- none.
-- Assumes nothing.
use Rattle.std.specs.Prelude.{List, [], ◌∷◌, ◌++◌, ◌≡◌, refl, ℕ, zero, suc, replicate, Ok, Err}
use Rattle.shares.specs.Arranging.{largest_from}
use Rattle.shares.specs.Lists.{count}
use Rattle.shares.specs.Plan.{plan_of}
use Rattle.shares.specs.Refusals.{any_outside, named, any_twice}
use Rattle.shares.specs.Spreading.{best_from, spread}
use Rattle.shares.specs.Tested.{all_named, all_counted, differ}
use Rattle.shares.specs.Wanted.{shares_in, total}
use Rattle.shares.specs.declared.answers.PlanError.{PlanError}

abbrev pub room : List ℕ
room = replicate 50 0

-- addresses over and over
abbrev pub times : ℕ → List ℕ → List ℕ
times zero list = []
times (suc n) list = list ++ times n list

pub half_and_quarters : plan_of (1 ∷ 10 ∷ 2 ∷ 5 ∷ 3 ∷ 5 ∷ []) room ≡ (Ok 20, times 5 (1 ∷ 2 ∷ 1 ∷ 3 ∷ []) ++ replicate 30 0)
unfolding shares_in any_outside named any_twice total largest_from count best_from spread all_named all_counted differ
half_and_quarters = refl

pub nearly_half_each : plan_of (1 ∷ 10 ∷ 2 ∷ 10 ∷ 3 ∷ 1 ∷ []) room ≡ (Ok 21, (1 ∷ 2 ∷ 3 ∷ []) ++ times 9 (1 ∷ 2 ∷ []) ++ replicate 29 0)
unfolding shares_in any_outside named any_twice total largest_from count best_from spread all_named all_counted differ
nearly_half_each = refl

pub more_than_half : plan_of (1 ∷ 11 ∷ 2 ∷ 10 ∷ []) room ≡ (Err PlanError.NoSuchList, room)
unfolding shares_in any_outside named any_twice total largest_from
more_than_half = refl
