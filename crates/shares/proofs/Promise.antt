-- Document 02, No. 5: "The tool answers a list of 20 to 50 addresses with exactly those turns, no two neighbours equal around the ring, or
-- says there is none. It refuses exactly when no such list exists, stated over lists and not over the tool's own search."
-- Assumes nothing.
use Rattle.std.specs.Prelude.{true, false, List, ◌≡◌, ℕ, length, take, drop, Result, Ok, Err}
use Rattle.std.proofs.Common.{true≢false, sym, ap, ◌∙◌, arith, take_at, drop_at}
use Rattle.laws.specs.Pick.{by}
use Rattle.shares.specs.Asked.{Asked}
use Rattle.shares.specs.Outcomes.{PlanOutcome}
use Rattle.shares.specs.Lists.{Loadable}
use Rattle.shares.specs.Numbers.{plan_number, plan_value}
use Rattle.shares.specs.Plan.{planned, over, plan_of}
use Rattle.shares.specs.Refusals.{any_twice, no_such_list}
use Rattle.shares.specs.Tested.{loadable}
use Rattle.shares.specs.Wanted.{shares_in, total}
use Rattle.shares.proofs.Laws.PlanLaws.{asked_by, wrong_by, fits_none, fits_listed, planned_loadable}
use Rattle.shares.proofs.Laws.TestLaws.{test_sound, test_complete, loadable_length, loadable_fits}
use Rattle.shares.specs.Laws.Totals.{not_wrong}
use Rattle.shares.specs.declared.answers.PlanError.{PlanError}
use Rattle.shares.specs.declared.wanted.Share.{Share}

-- what is answered is a list that is asked for, at the front of the room; the words past it stay as they were
pub record Answered (wanted room : List ℕ) (addresses : ℕ) (after : List ℕ) : Type 0 where
  pub list : Loadable (shares_in wanted) (take addresses after)
  pub long : length (take addresses after) ≡ addresses
  pub past : drop addresses after ≡ drop addresses room

pub answers_a_list : (wanted room after : List ℕ) (addresses : ℕ) → PlanOutcome wanted room (Ok addresses, after)
    → Answered wanted room addresses after
answers_a_list wanted room after addresses e =
    let shares = shares_in wanted in
    let number = ap (λ (o : Result ℕ PlanError × List ℕ). plan_number o.0) (sym e) in
    let a = asked_by wanted room 0 number (λ q. omega arith) (λ q. omega arith) (λ q. omega arith) (λ q. omega arith) in
    by (no_such_list shares)
    (λ t. absurd (omega (arith, sym (ap (λ (o : Result ℕ PlanError × List ℕ). plan_number o.0) (fits_none wanted room a t)) ∙ number)))
    (λ t.
    let l = planned_loadable wanted room a t in
    let same = e ∙ fits_listed wanted room a t in
    let count : addresses ≡ total shares = ap (λ (o : Result ℕ PlanError × List ℕ). plan_value o.0) same in
    let room_left : after ≡ over (planned shares) room = ap (λ (o : Result ℕ PlanError × List ℕ). o.1) same in
    let long : length (planned shares) ≡ addresses = loadable_length shares a.once (planned shares) l ∙ sym count in
    let front : take addresses after ≡ planned shares = ap (take addresses) room_left ∙ take_at (planned shares) (drop (length (planned shares)) room) addresses long in
    record {
      list = rw front l;
      long = ap length front ∙ long;
      past =
          ap (drop addresses) room_left
          ∙ drop_at (planned shares) (drop (length (planned shares)) room) addresses long
          ∙ ap (λ (n : ℕ). drop n room) long;
    })

-- where it says that there is none, no list at all is one that is asked for
pub none_is_none : (wanted room after : List ℕ) → PlanOutcome wanted room (Err PlanError.NoSuchList, after) → (list : List ℕ) → Loadable (shares_in wanted) list → ⊥
none_is_none wanted room after e list l =
    let number = ap (λ (o : Result ℕ PlanError × List ℕ). plan_number o.0) (sym e) in
    let a = asked_by wanted room 4 number (λ q. omega arith) (λ q. omega arith) (λ q. omega arith) (λ q. omega arith) in
    let fits = loadable_fits (shares_in wanted) a.once list l in
    omega (arith, sym (ap (λ (o : Result ℕ PlanError × List ℕ). plan_number o.0) (fits_listed wanted room a fits)) ∙ number)

-- nor is any where it says that the total is outside 20 to 50
pub wrong_total_is_none : (wanted room after : List ℕ) → PlanOutcome wanted room (Err PlanError.WrongTotal, after) → (list : List ℕ)
    → Loadable (shares_in wanted) list → ⊥
wrong_total_is_none wanted room after e list l =
    let number = ap (λ (o : Result ℕ PlanError × List ℕ). plan_number o.0) (sym e) in
    let (once, wrong) = wrong_by wanted room 3 number (λ q. omega arith) (λ q. omega arith) (λ q. omega arith) (λ q. omega arith) (λ q. omega arith) in
    let long = loadable_length (shares_in wanted) once list l in
    true≢false (sym wrong ∙ not_wrong (total (shares_in wanted)) (omega (arith, long, l.least)) (omega (arith, long, l.most)))

-- and where no list is, it says so, if no earlier refusal fits
pub none_is_said : (wanted room : List ℕ) → Asked wanted room → ((list : List ℕ) → Loadable (shares_in wanted) list → ⊥)
    → plan_of wanted room ≡ (Err PlanError.NoSuchList, room)
none_is_said wanted room a none =
    by (no_such_list (shares_in wanted)) (fits_none wanted room a) (λ t. absurd (none (planned (shares_in wanted)) (planned_loadable wanted room a t)))

-- so a load that has a list is answered with one, as long as that list is
pub some_is_answered : (wanted room : List ℕ) → Asked wanted room → (list : List ℕ) → Loadable (shares_in wanted) list
    → plan_of wanted room ≡ (Ok (length list), over (planned (shares_in wanted)) room)
some_is_answered wanted room a list l =
    fits_listed wanted room a (loadable_fits (shares_in wanted) a.once list l)
    ∙ ap (λ (n : ℕ). (Ok n, over (planned (shares_in wanted)) room)) (sym (loadable_length (shares_in wanted) a.once list l))

-- the test by which a list that was spread is answered or not is exact
pub tested_exact : (shares : List Share) → any_twice shares ≡ false → (list : List ℕ)
    → (loadable shares list ≡ true → Loadable shares list) × (Loadable shares list → loadable shares list ≡ true)
tested_exact shares once list = (test_sound shares once list, test_complete shares once list)
