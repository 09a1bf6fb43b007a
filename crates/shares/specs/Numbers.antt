-- The number of each answer and its value. C gets one number, the value 65,536 times over the number.
-- Assumes nothing.
use Rattle.std.specs.Prelude.{List, ℕ, ◌+◌, ◌*◌, Result, Ok, Err}
use Rattle.shares.specs.Plan.{plan_of}
use Rattle.shares.specs.declared.answers.PlanError.{PlanError}

-- 9 lent room too small, or an odd number of numbers; 1 address outside 1 to 31, 2 address named twice, 3 total outside 20 to 50, 4 no
-- such list
abbrev pub plan_number : Result ℕ PlanError → ℕ
plan_number (Err PlanError.NoRoom) = 9
plan_number (Err PlanError.OutsideAddress) = 1
plan_number (Err PlanError.NamedTwice) = 2
plan_number (Err PlanError.WrongTotal) = 3
plan_number (Err PlanError.NoSuchList) = 4
plan_number (Ok addresses) = 0

-- the length of the list, and 0 where there is none
abbrev pub plan_value : Result ℕ PlanError → ℕ
plan_value (Err error) = 0
plan_value (Ok addresses) = addresses

abbrev pub plan_packed : Result ℕ PlanError → ℕ
plan_packed plan = plan_number plan + plan_value plan * 65536

-- the call as C has it: the packed number, and the lent room as it is left
abbrev pub packed : Result ℕ PlanError × List ℕ → ℕ × List ℕ
packed outcome = (plan_packed outcome.0, outcome.1)

abbrev pub plan_face : List ℕ → List ℕ → ℕ × List ℕ
plan_face wanted room = packed (plan_of wanted room)
