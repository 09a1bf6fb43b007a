-- The test of a list is exact; and a list that is asked for has as many places as there are turns, half of them at most one transmitter's.
-- Assumes nothing.
use Rattle.std.specs.Prelude.{true, false, List, [], ◌∷◌, ◌≡◌, refl, ℕ, suc, ◌+◌, ◌*◌, ◌≤◌, ◌<◌, eqb, leb, ltb, length, get_or}
use Rattle.std.proofs.Common.{true≢false, sym, ap, ◌∙◌, arith, eqb-true, eq-eqb, ne_eqb, leb-true, le-leb, le-ltb, ltb-false}
use Rattle.std.proofs.lemmas.Bool.{false≢true, eqb-false}
use Rattle.laws.specs.Pick.{pick, by}
use Rattle.laws.specs.Laws.Both.{left_of, right_of, both}
use Rattle.shares.specs.Arranging.{largest}
use Rattle.shares.specs.Lists.{count, Loadable}
use Rattle.shares.specs.Refusals.{outside, any_outside, named, any_twice, no_such_list}
use Rattle.shares.specs.Tested.{all_named, all_counted, loadable}
use Rattle.shares.specs.Wanted.{turns_for, total, share_at}
use Rattle.shares.specs.Laws.Counting.{not_left, not_right, eqb_same, counted, unnamed_none, turns_at}
use Rattle.shares.proofs.Laws.LargestLaws.{largest_turns, largest_some}
use Rattle.shares.specs.Laws.RingLaws.{half, apart_of, ring_of, differ_of}
use Rattle.shares.specs.declared.wanted.Share.{Share}

-- ---- every address a wanted one

unnamed_uncounted : (shares : List Share) (list : List ℕ) → all_named shares list ≡ true → (a : ℕ) → named a shares ≡ false → count a list ≡ 0
unfolding all_named count
unnamed_uncounted shares [] all a none = refl
unnamed_uncounted shares (x ∷ list) all a none =
    let here = left_of (named x shares) (all_named shares list) all in
    let other : eqb x a ≡ false =
    ne_eqb x a (λ (q : x ≡ a). true≢false (sym here ∙ ap (λ (k : ℕ). named k shares) q ∙ none)) in
    rw (other, unnamed_uncounted shares list (right_of (named x shares) (all_named shares list) all) a none)

-- an address with turns is named
named_turns : (a : ℕ) (shares : List Share) → 1 ≤ turns_for a shares → named a shares ≡ true
named_turns a shares some = by (named a shares) (λ e. e) (λ e. absurd (omega (arith, unnamed_none a shares e)))

all_named_lem : (shares : List Share) (list : List ℕ) → ((i : ℕ) → i < length list → named (get_or list i 0) shares ≡ true) → all_named shares list ≡ true
unfolding all_named
all_named_lem shares [] f = refl
all_named_lem shares (x ∷ list) f = both (f 0 (omega arith)) (all_named_lem shares list (λ i h. f (suc i) (omega arith)))

-- ---- every transmitter its turns

counted_named : (shares : List Share) (list : List ℕ) → any_twice shares ≡ false → all_counted shares list ≡ true
    → (a : ℕ) → named a shares ≡ true → count a list ≡ turns_for a shares
unfolding all_counted named any_twice turns_for
counted_named [] list once all a here = absurd (false≢true here)
counted_named (s ∷ shares) list once all a here =
    let mine = left_of (eqb (count s.address list) s.turns) (all_counted shares list) all in
    let alone = not_left (named s.address shares) (any_twice shares) once in
    by (eqb s.address a)
    (λ e.
    let q = eqb-true s.address a e in
    let none = unnamed_none a shares (rw q at alone) in
    rw e (omega (arith, rw q at (eqb-true (count s.address list) s.turns mine))))
    (λ e.
    let rest = right_of (eqb (count s.address list) s.turns) (all_counted shares list) all in
    rw e
    (omega
    (arith, counted_named shares list (not_right (named s.address shares) (any_twice shares) once) rest a (rw e at here))))

all_counted_lem : (shares : List Share) (list : List ℕ)
    → ((i : ℕ) → i < length shares → count (share_at shares i).address list ≡ (share_at shares i).turns) → all_counted shares list ≡ true
unfolding all_counted
all_counted_lem [] list f = refl
all_counted_lem (s ∷ shares) list f =
    both (eq-eqb (count s.address list) s.turns (f 0 (omega arith))) (all_counted_lem shares list (λ i h. f (suc i) (omega arith)))

-- ---- the whole test

module _ (shares : List Share) (once : any_twice shares ≡ false) (list : List ℕ) where
  pub test_sound : loadable shares list ≡ true → Loadable shares list
  test_sound e =
      let least = left_of _ _ e in
      let e1 = right_of (leb 20 (length list)) _ e in
      let most = left_of _ _ e1 in
      let e2 = right_of (leb (length list) 50) _ e1 in
      let names = left_of _ _ e2 in
      let e3 = right_of (all_named shares list) _ e2 in
      let counts = left_of _ _ e3 in
      let round = right_of (all_counted shares list) _ e3 in
      let some = leb-true 20 (length list) least in
      record {
        least = some;
        most = leb-true (length list) 50 most;
        exact =
            λ a.
            by (named a shares) (λ t. counted_named shares list once counts a t)
            (λ t. unnamed_uncounted shares list names a t ∙ sym (unnamed_none a shares t));
        apart = apart_of list round;
        ring = ring_of list round (omega arith);
      }

  pub test_complete : Loadable shares list → loadable shares list ≡ true
  test_complete l =
      both (le-leb 20 (length list) l.least)
      (both (le-leb (length list) 50 l.most)
      (both
      (all_named_lem shares list
      (λ i h. named_turns (get_or list i 0) shares (omega (arith, counted list i h, l.exact (get_or list i 0)))))
      (both (all_counted_lem shares list (λ i h. l.exact (share_at shares i).address ∙ turns_at shares once i h)) (differ_of list l.apart l.ring))))

-- ---- as many places as there are turns

-- a list without an address
without : ℕ → List ℕ → List ℕ
without a [] = []
without a (x ∷ list) = pick (eqb x a) (without a list) (x ∷ without a list)

length_without : (a : ℕ) (list : List ℕ) → length list ≡ count a list + length (without a list)
unfolding count without
length_without a [] = refl
length_without a (x ∷ list) = by (eqb x a) (λ e. rw e (omega (arith, length_without a list))) (λ e. rw e (omega (arith, length_without a list)))

count_without : (a b : ℕ) (list : List ℕ) → count b (without a list) ≡ pick (eqb a b) 0 (count b list)
unfolding count without
count_without a b [] = by (eqb a b) (λ e. rw e) (λ e. rw e)
count_without a b (x ∷ list) =
    let later = count_without a b list in
    by (eqb x a)
    (λ e.
    let q = eqb-true x a e in
    by (eqb a b) (λ t. rw (e, t) (rw t at later))
    (λ t.
    let other : eqb x b ≡ false = rw (← q) at t in
    rw (e, t, other) (omega (arith, rw t at later))))
    (λ e.
    by (eqb a b)
    (λ t.
    let other : eqb x b ≡ false = ne_eqb x b (λ (r : x ≡ b). eqb-false x a e (r ∙ sym (eqb-true a b t))) in
    rw (e, t, other) (omega (arith, rw t at later)))
    (λ t. rw (e, t) (omega (arith, rw t at later))))

none_counted : (list : List ℕ) → ((a : ℕ) → count a list ≡ 0) → length list ≡ 0
unfolding count
none_counted [] f = refl
none_counted (x ∷ list) f = absurd (omega (arith, rw (eqb_same x) at (f x)))

exact_length : (shares : List Share) → any_twice shares ≡ false → (list : List ℕ) → ((a : ℕ) → count a list ≡ turns_for a shares)
    → length list ≡ total shares
unfolding any_twice turns_for total
exact_length [] once list f = none_counted list f
exact_length (s ∷ shares) once list f =
    let alone = not_left (named s.address shares) (any_twice shares) once in
    let none = unnamed_none s.address shares alone in
    let mine : count s.address list ≡ s.turns = omega (arith, rw (eqb_same s.address) at (f s.address)) in
    let later =
    exact_length shares (not_right (named s.address shares) (any_twice shares) once) (without s.address list)
    (λ b.
    count_without s.address b list
    ∙ by (eqb s.address b) (λ t. rw t (sym none ∙ ap (λ (k : ℕ). turns_for k shares) (eqb-true s.address b t)))
    (λ t. rw t (omega (arith, rw t at (f b))))) in
    omega (arith, length_without s.address list)

module _ (shares : List Share) (once : any_twice shares ≡ false) (list : List ℕ) (l : Loadable shares list) where
  pub loadable_length : length list ≡ total shares
  loadable_length = exact_length shares once list l.exact

  -- so a load with a list is not refused
  pub loadable_fits : no_such_list shares ≡ false
  loadable_fits =
      let long = loadable_length in
      let some = largest_some shares (omega (arith, l.least)) in
      let turns = largest_turns shares once some in
      le-ltb (total shares) (2 * (largest shares).turns)
      (omega (arith, half (largest shares).address list (differ_of list l.apart l.ring), l.exact (largest shares).address))

-- ---- every address of a list that is asked for is one from 1 to 31

named_inside : (a : ℕ) (shares : List Share) → any_outside shares ≡ false → named a shares ≡ true → outside a ≡ false
unfolding any_outside named
named_inside a [] inside here = absurd (false≢true here)
named_inside a (s ∷ shares) inside here =
    by (eqb s.address a)
    (λ e. ap outside (sym (eqb-true s.address a e)) ∙ not_left (outside s.address) (any_outside shares) inside)
    (λ e. named_inside a shares (not_right (outside s.address) (any_outside shares) inside) (rw e at here))

pub loadable_inside : (shares : List Share) → any_outside shares ≡ false → (list : List ℕ) → Loadable shares list
    → (i : ℕ) → i < length list → (1 ≤ get_or list i 0) × (get_or list i 0 ≤ 31)
loadable_inside shares inside list l i h =
    let a = get_or list i 0 in
    let in_it = named_inside a shares inside (named_turns a shares (omega (arith, counted list i h, l.exact a))) in
    (ltb-false a 1 (not_left (ltb a 1) (ltb 31 a) in_it), ltb-false 31 a (not_right (ltb a 1) (ltb 31 a) in_it))
