-- Document 01, Numbers, the column "State and memories": the numbers whose row says "unchanged".
-- Assumes nothing.
use Rattle.std.specs.Prelude.{Bool, true, ◌||◌, List, ◌≡◌, ℕ, eqb}

abbrev pub leaves_all : ℕ → Bool
leaves_all n = eqb n 1 || eqb n 2 || eqb n 3 || eqb n 4 || eqb n 7 || eqb n 9

-- with such a number, every cell is what it was
abbrev pub Unchanged : {A : Type 0} → (A → ℕ) → List ℕ → A × List ℕ → Type 0
Unchanged number cells outcome = leaves_all (number outcome.0) ≡ true → outcome.1 ≡ cells

-- and of a call that is lent a memory, every word of it too
abbrev pub BothUnchanged : {A : Type 0} → (A → ℕ) → List ℕ → List ℕ → A × List ℕ × List ℕ → Type 0
BothUnchanged number cells memory outcome = leaves_all (number outcome.0) ≡ true → (outcome.1 ≡ cells) × (outcome.2 ≡ memory)
