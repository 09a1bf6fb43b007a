-- What an admission says of the call that it stands before: where it refuses, the call is refused so; else the call goes on.
-- Assumes nothing.
use Rattle.std.specs.Prelude.{Bool, true, false, not, List, ◌≡◌, refl, ℕ, leb, Result, Ok, Err}
use Rattle.std.specs.Result.{IsErr, IsErrAnd}
use Rattle.std.proofs.Common.{ap, ◌∙◌, arith}
use Rattle.std.proofs.lemmas.Bool.{false≢true}
use Rattle.cells.specs.Fitted.{Fitted}
use Rattle.cells.specs.Layout.{count_in}
use Rattle.cells.specs.Ranges.{in_range}
use Rattle.cells.specs.Laws.RangeLaws.{fitted}
use Rattle.laws.specs.Pick.{pick}
use Rattle.words.specs.declared.answers.Refusal.{Refusal}
use Rattle.words.specs.declared.answers.Write.{Write}
use Rattle.pcl.specs.Calls.{admitted, at_unit, read_by, written_by}
use Rattle.pcl.specs.Laws.Cases.{admitted_cases}

abbrev Admission : Type 0
Admission = Result (Unit {0}) Refusal

abbrev admission : List ℕ → ℕ → Admission
admission cells unit = admitted cells unit (Err Refusal.BadState) (Err Refusal.NoUnit) (Ok tt)

-- what a `?` hands on is the refusal that it had
pub handed_on : {A : Type 0} (answer : Result A Refusal) (refusal : Refusal) → IsErr answer → IsErrAnd answer (λ e. e ≡ refusal) → answer ≡ Err refusal
handed_on (Ok a) refusal h is = absurd (false≢true h)
handed_on (Err e) refusal h is = ap Err is

by_tests : {A : Type 0} (t u : Bool) (f : Refusal → A) (rest : A) (refusal : Refusal)
    → ◌≡◌ {A = Admission} (Err refusal) (pick t (Err Refusal.BadState) (pick u (Err Refusal.NoUnit) (Ok tt)))
    → f refusal ≡ pick t (f Refusal.BadState) (pick u (f Refusal.NoUnit) rest)
by_tests true u f rest refusal e = let same : refusal ≡ Refusal.BadState = cc in ap f same
by_tests false true f rest refusal e = let same : refusal ≡ Refusal.NoUnit = cc in ap f same
by_tests false false f rest refusal e = absurd (let z : ◌≡◌ {A = ℕ} 0 1 = cc in omega arith)

past_tests : {A : Type 0} (t u : Bool) (a b rest x : A) (done : Unit {0})
    → ◌≡◌ {A = Admission} (Ok done) (pick t (Err Refusal.BadState) (pick u (Err Refusal.NoUnit) (Ok tt)))
    → x ≡ rest → x ≡ pick t a (pick u b rest)
past_tests true u a b rest x done e p = absurd (let z : ◌≡◌ {A = ℕ} 0 1 = cc in omega arith)
past_tests false true a b rest x done e p = absurd (let z : ◌≡◌ {A = ℕ} 0 1 = cc in omega arith)
past_tests false false a b rest x done e p = p

module _ (cells : List ℕ) (unit : ℕ) where
  refused : {A : Type 0} (f : Refusal → A) (rest : A) (refusal : Refusal) → Err refusal ≡ admission cells unit
      → f refusal ≡ admitted cells unit (f Refusal.BadState) (f Refusal.NoUnit) rest
  refused f rest refusal e = by_tests (not (in_range cells)) (leb (count_in cells) unit) f rest refusal e

  -- a call at a unit, and a move, which leaves the memory too
  pub refused_call : {A : Type 0} (rest : Result A Refusal × List ℕ) (answer : Result A Refusal) (refusal : Refusal)
      → IsErr answer × IsErrAnd answer (λ e. e ≡ refusal) → Err refusal ≡ admission cells unit
      → (answer, cells) ≡ at_unit cells unit (Err Refusal.BadState) (Err Refusal.NoUnit) rest
  refused_call {A} rest answer refusal handed e =
      ap (λ (r : Result A Refusal). (r, cells)) (handed_on answer refusal handed.0 handed.1) ∙ refused (λ r. (Err r, cells)) rest refusal e

  pub refused_move : {A : Type 0} (memory : List ℕ) (rest : Result A Refusal × List ℕ × List ℕ) (answer : Result A Refusal) (refusal : Refusal)
      → IsErr answer × IsErrAnd answer (λ e. e ≡ refusal) → Err refusal ≡ admission cells unit
      → (answer, cells, memory) ≡ admitted cells unit (Err Refusal.BadState, cells, memory) (Err Refusal.NoUnit, cells, memory) rest
  refused_move {A} memory rest answer refusal handed e =
      ap (λ (r : Result A Refusal). (r, cells, memory)) (handed_on answer refusal handed.0 handed.1)
      ∙ refused (λ r. (Err r, cells, memory)) rest refusal e

  pub goes_on : {A : Type 0} (a b rest x : A) (done : Unit {0}) → Ok done ≡ admission cells unit → x ≡ rest → x ≡ admitted cells unit a b rest
  goes_on a b rest x done e p = past_tests (not (in_range cells)) (leb (count_in cells) unit) a b rest x done e p

-- the case of a call that an admission leads to: no admission answers another refusal than these two
abbrev refused_case : {A : Type 0} → Refusal → A → A → A
refused_case Refusal.NoUnit a b = b
refused_case Refusal.NoRegister a b = a
refused_case Refusal.ByteRefused a b = a
refused_case Refusal.Nothing a b = a
refused_case Refusal.BadSetUp a b = a
refused_case Refusal.BadMask a b = a
refused_case Refusal.NoRoom a b = a
refused_case Refusal.BadState a b = a

abbrev by_case : {A : Type 0} → Admission → A → A → A → A
by_case (Err refusal) a b c = refused_case refusal a b
by_case (Ok done) a b c = c

case_by_tests : {A : Type 0} (t u : Bool) (a b c : A)
    → by_case (pick t (Err Refusal.BadState) (pick u (Err Refusal.NoUnit) (Ok tt))) a b c ≡ pick t a (pick u b c)
case_by_tests true u a b c = refl
case_by_tests false true a b c = refl
case_by_tests false false a b c = refl

-- the answer of `admit` is the admission, and the call's case is that of the answer
module _ {A : Type 0} (cells : List ℕ) (unit : ℕ) {answer : Admission} (a b c : A) (e : answer ≡ admission cells unit) where
  goes_as : {k : Admission} → answer ≡ k → by_case k a b c ≡ admitted cells unit a b c
  goes_as f = rw (← case_by_tests (not (in_range cells)) (leb (count_in cells) unit) a b c, ← e, f)

  pub bad_state : answer ≡ Err Refusal.BadState → a ≡ admitted cells unit a b c
  bad_state f = goes_as f

  pub no_unit : answer ≡ Err Refusal.NoUnit → b ≡ admitted cells unit a b c
  no_unit f = goes_as f

  pub admits : {x : A} → answer ≡ Ok tt → x ≡ c → x ≡ admitted cells unit a b c
  admits f p = p ∙ goes_as f

-- an admitted unit is one of those that the header counts
abbrev FittedThen : List ℕ → ℕ → Admission → Type 0
FittedThen cells unit (Err refusal) = Unit {0}
FittedThen cells unit (Ok done) = Fitted cells unit

pub at_unit_lem : (cells : List ℕ) (unit : ℕ) {answer : Admission} → answer ≡ admission cells unit → answer ≡ Ok tt → Fitted cells unit
at_unit_lem cells unit e f =
    rw (← e, f) at
    (admitted_cases cells (FittedThen cells unit) unit (Err Refusal.BadState) (Err Refusal.NoUnit) (Ok tt) tt tt (λ ok there. fitted cells ok unit there))

-- a call's answer, made of that of the function on the fitted unit
pub read_by_lem : (r : Result ℕ Refusal) (l : List ℕ) (p : Result ℕ Refusal × List ℕ) → (r, l) ≡ p → (r, l) ≡ read_by p
read_by_lem r l p e = ap read_by e

pub written_by_lem : (r : Result Write Refusal) (l : List ℕ) (p : Result Write Refusal × List ℕ) → (r, l) ≡ p → (r, l) ≡ written_by p
written_by_lem r l p e = ap written_by e

pub done_by : {A : Type 0} (a : A) (l m : List ℕ) → l ≡ m → ◌≡◌ {A = A × List ℕ} (a, l) (a, m)
done_by a l m e = ap (λ (k : List ℕ). (a, k)) e

-- together, for the proof of a call
pub ruleset calls = (tt, at_unit_lem, bad_state, no_unit, admits, read_by_lem, written_by_lem, done_by)
