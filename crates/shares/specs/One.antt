-- "Each public call's contract determines the answer, the next state and each lent word, on every input; that no second outcome fits is
-- proved": two outcomes that meet a contract are equal.
-- Assumes nothing.
use Rattle.std.specs.Prelude.{List, ◌≡◌, ℕ}
use Rattle.std.proofs.Common.{sym, ◌∙◌}
use Rattle.shares.specs.Outcomes.{PlanOutcome, PlanFaceOutcome}

abbrev pub Single : {A : Type 0} → (A → Type 0) → Type 0
Single {A} Contract = (x y : A) → Contract x → Contract y → x ≡ y

single : {A : Type 0} (o : A) → Single (λ x. x ≡ o)
single o x y e f = e ∙ sym f

pub one_plan : (wanted room : List ℕ) → Single (PlanOutcome wanted room)
one_plan wanted room = single _

pub one_plan_face : (wanted room : List ℕ) → Single (PlanFaceOutcome wanted room)
one_plan_face wanted room = single _
