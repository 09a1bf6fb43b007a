-- The contract of each public call: what it promises of its outcome, for everything lent. It is all that the function's `ensures` says. An
-- outcome is the answer, and the lent room as it is left. What is lent to be read alone stays as it was.
-- Assumes nothing.
use Rattle.std.specs.Prelude.{List, ◌≡◌, ℕ, Result}
use Rattle.shares.specs.Numbers.{plan_face}
use Rattle.shares.specs.Plan.{plan_of}
use Rattle.shares.specs.declared.answers.PlanError.{PlanError}

-- for Rattle
abbrev pub PlanOutcome : List ℕ → List ℕ → Result ℕ PlanError × List ℕ → Type 0
PlanOutcome wanted room outcome = outcome ≡ plan_of wanted room

-- for C: the packed number
abbrev pub PlanFaceOutcome : List ℕ → List ℕ → ℕ × List ℕ → Type 0
PlanFaceOutcome wanted room outcome = outcome ≡ plan_face wanted room
