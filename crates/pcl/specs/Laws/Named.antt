-- What the name of a side says of the call at it: which side's the call is, or that it is refused.
-- Assumes nothing.
use Rattle.std.specs.Prelude.{Bool, true, false, List, ◌≡◌, ℕ, eqb, Result, Ok, Err}
use Rattle.std.specs.Result.{IsErr, IsErrAnd}
use Rattle.std.proofs.Common.{ap, ◌∙◌, arith}
use Rattle.laws.specs.Pick.{pick}
use Rattle.words.specs.declared.answers.Refusal.{Refusal}
use Rattle.pcl.specs.Sides.{at_side, side_named}
use Rattle.pcl.specs.declared.units.Which.{Which}
use Rattle.pcl.specs.Laws.Admitted.{handed_on}

abbrev by_tests : Bool → Bool → Result Which Refusal
by_tests t u = pick t (Ok Which.Transmitter) (pick u (Ok Which.Receiver) (Err Refusal.NoUnit))

transmits_by : {A : Type 0} (t u : Bool) (a b none x : A) (which : Which) → Ok which ≡ by_tests t u → which ≡ Which.Transmitter → x ≡ a
    → x ≡ pick t a (pick u b none)
transmits_by true u a b none x which e is p = p
transmits_by false true a b none x which e is p = absurd (let z : ◌≡◌ {A = ℕ} 0 1 = cc in omega arith)
transmits_by false false a b none x which e is p = absurd (let z : ◌≡◌ {A = ℕ} 0 1 = cc in omega arith)

receives_by : {A : Type 0} (t u : Bool) (a b none x : A) (which : Which) → Ok which ≡ by_tests t u → which ≡ Which.Receiver → x ≡ b
    → x ≡ pick t a (pick u b none)
receives_by true u a b none x which e is p = absurd (let z : ◌≡◌ {A = ℕ} 0 1 = cc in omega arith)
receives_by false true a b none x which e is p = p
receives_by false false a b none x which e is p = absurd (let z : ◌≡◌ {A = ℕ} 0 1 = cc in omega arith)

neither_by : {A : Type 0} (t u : Bool) (f : Refusal → A) (a b : A) (refusal : Refusal) → Err refusal ≡ by_tests t u
    → f refusal ≡ pick t a (pick u b (f Refusal.NoUnit))
neither_by true u f a b refusal e = absurd (let z : ◌≡◌ {A = ℕ} 0 1 = cc in omega arith)
neither_by false true f a b refusal e = absurd (let z : ◌≡◌ {A = ℕ} 0 1 = cc in omega arith)
neither_by false false f a b refusal e = let same : refusal ≡ Refusal.NoUnit = cc in ap f same

module _ (side : ℕ) where
  pub transmits : {A : Type 0} (a b none x : A) (which : Which) → Ok which ≡ side_named side → which ≡ Which.Transmitter → x ≡ a → x ≡ at_side side a b none
  transmits a b none x which e is p = transmits_by (eqb side 0) (eqb side 1) a b none x which e is p

  pub receives : {A : Type 0} (a b none x : A) (which : Which) → Ok which ≡ side_named side → which ≡ Which.Receiver → x ≡ b → x ≡ at_side side a b none
  receives a b none x which e is p = receives_by (eqb side 0) (eqb side 1) a b none x which e is p

  -- a move, which leaves the cells and the memory
  pub neither : {A : Type 0} (cells memory : List ℕ) (a b : Result A Refusal × List ℕ × List ℕ) (answer : Result A Refusal) (refusal : Refusal)
      → IsErr answer × IsErrAnd answer (λ e. e ≡ refusal) → Err refusal ≡ side_named side
      → (answer, cells, memory) ≡ at_side side a b (Err Refusal.NoUnit, cells, memory)
  neither {A} cells memory a b answer refusal handed e =
      ap (λ (r : Result A Refusal). (r, cells, memory)) (handed_on answer refusal handed.0 handed.1)
      ∙ neither_by (eqb side 0) (eqb side 1) (λ r. (Err r, cells, memory)) a b refusal e
