-- The call for C: the number is the call's, packed, and the room is as the call leaves it.
-- Assumes nothing.
use Rattle.std.specs.Prelude.{List, ◌≡◌, ℕ, Result}
use Rattle.std.proofs.Common.{ap, ◌∙◌}
use Rattle.shares.specs.Numbers.{plan_packed, packed}
use Rattle.shares.specs.declared.answers.PlanError.{PlanError}

pub packed_as : {n : ℕ} {answer : Result ℕ PlanError} {after : List ℕ} {outcome : Result ℕ PlanError × List ℕ} → n ≡ plan_packed answer
    → ◌≡◌ {A = Result ℕ PlanError × List ℕ} (answer, after) outcome → ◌≡◌ {A = ℕ × List ℕ} (n, after) (packed outcome)
packed_as {after = after} e f = ap (λ (k : ℕ). (k, after)) e ∙ ap packed f
