-- The addresses that a ring gives, one after the other, and how often each is among them.
-- Assumes nothing.
use Rattle.std.specs.Prelude.{List, [], ◌∷◌, ◌++◌, ◌≡◌, ℕ, zero, suc, ◌+◌, ◌-◌, ◌*◌, ◌/◌, ◌%◌, ◌≤◌, ◌<◌, eqb, length, get_or, take, drop}
use Rattle.std.proofs.Common.{append-nil, sym, ◌∙◌, zero-mul, suc-mul, zero-add, suc-add, arith, take-append-drop}
use Rattle.std.proofs.Math.Path.{refl, ap}
use Rattle.std.proofs.Math.Nat.{div-add-mod', mod-lt, mul-add-div_right, div-eq_of_lt, add-div_right, mul_comm}
use borrow.Author.Tests.{eqb-true, eqb-false}
use Rattle.std.proofs.Math.Seq.{take-length}
use Rattle.laws.specs.Pick.{by}
use Rattle.master.specs.Laws.Rotation.{rotated, turned, first_turned, turned_round}
use Rattle.shares.specs.Lists.{count}
use Rattle.shares.specs.Laws.Counting.{count_append}

unfoldable pub around : ℕ → List ℕ → List ℕ
around zero list = []
around (suc n) list = get_or list 0 0 ∷ around n (rotated list)

pub length_around : (n : ℕ) (list : List ℕ) → length (around n list) ≡ n
unfolding around
length_around zero list = refl
length_around (suc n) list = ap suc (length_around n (rotated list))

-- some, and then others
around_add : (n m : ℕ) (list : List ℕ) → around (n + m) list ≡ around n list ++ around m (turned n list)
unfolding around turned
around_add zero m list = ap (λ (k : ℕ). around k list) (zero-add m)
around_add (suc n) m list =
    ap (λ (k : ℕ). around k list) (suc-add n m) ∙ ap (λ (l : List ℕ). get_or list 0 0 ∷ l) (around_add n m (rotated list))

-- within a round they are the first of the list
around_first : (n : ℕ) (front back : List ℕ) → n ≤ length front → around n (front ++ back) ≡ take n front
unfolding around
around_first zero front back h = refl
around_first (suc n) [] back h = absurd (omega arith)
around_first (suc n) (a ∷ front) back h =
    ap (λ (l : List ℕ). a ∷ around n l) (turn_once front back a) ∙ ap (λ (l : List ℕ). a ∷ l) (around_first n front (back ++ (a ∷ [])) (omega arith))
  where
    turn_once : (f b : List ℕ) (x : ℕ) → (f ++ b) ++ (x ∷ []) ≡ f ++ (b ++ (x ∷ []))
    turn_once [] b x = refl
    turn_once (y ∷ f) b x = ap (λ (l : List ℕ). y ∷ l) (turn_once f b x)

module _ (list : List ℕ) where
  part_round : (n : ℕ) → n ≤ length list → around n list ≡ take n list
  part_round n h = ap (around n) (sym (append-nil list)) ∙ around_first n list [] h

  whole_round : around (length list) list ≡ list
  whole_round = part_round (length list) (omega arith) ∙ take-length list

  module _ (a : ℕ) where
    next_round : (n : ℕ) → count a (around (length list + n) list) ≡ count a list + count a (around n list)
    next_round n =
        ap (count a) (around_add (length list) n list)
        ∙ count_append a (around (length list) list) (around n (turned (length list) list))
        ∙ ap (λ (l : List ℕ). count a l + count a (around n (turned (length list) list))) whole_round
        ∙ ap (λ (l : List ℕ). count a list + count a (around n l)) (turned_round list)

    rounds : (q r : ℕ) → count a (around (q * length list + r) list) ≡ q * count a list + count a (around r list)
    rounds zero r =
        ap (λ (k : ℕ). count a (around k list)) (ap (λ (k : ℕ). k + r) (zero-mul (length list)) ∙ zero-add r)
        ∙ omega (arith, zero-mul (count a list))
    rounds (suc q) r =
        let split : suc q * length list + r ≡ length list + (q * length list + r) = omega (arith, suc-mul q (length list)) in
        ap (λ (k : ℕ). count a (around k list)) split ∙ next_round (q * length list + r) ∙ omega (arith, rounds q r, suc-mul q (count a list))

    part_count : (r : ℕ) → r ≤ length list → count a (around r list) ≤ count a list
    part_count r h =
        omega
        (arith, ap (count a) (part_round r h), count_append a (take r list) (drop r list), ap (count a) (take-append-drop r list))

-- ---- W of them, of a list of L

small : (n m : ℕ) → n < m → n / m ≡ 0
small n m h = div-eq_of_lt h

-- W/L rounded up, for W of q whole rounds and r more
ceiling : (l q r : ℕ) → 0 < l → r < l → (r ≡ 0 → (q * l + r + l - 1) / l ≡ q) × ((r ≡ 0 → ⊥) → (q * l + r + l - 1) / l ≡ q + 1)
ceiling l q r some less = (
  λ (e : r ≡ 0).
      let split : q * l + r + l - 1 ≡ q * l + (l - 1) = omega arith in
      ap (λ (k : ℕ). k / l) split ∙ mul-add-div_right some q (l - 1) ∙ omega (arith, small (l - 1) l (omega arith)),
  λ (e : r ≡ 0 → ⊥).
      let split : q * l + r + l - 1 ≡ q * l + ((r - 1) + l) = omega arith in
      ap (λ (k : ℕ). k / l) split
      ∙ mul-add-div_right some q ((r - 1) + l)
      ∙ omega (arith, add-div_right (r - 1) some, small (r - 1) l (omega arith)),
)

module _ (list : List ℕ) (some : 0 < length list) (a n : ℕ) where
  abbrev l : ℕ
  l = length list

  counted_around : count a (around n list) ≡ n / l * count a list + count a (around (n % l) list)
  counted_around = ap (λ (k : ℕ). count a (around k list)) (sym (div-add-mod' n l)) ∙ rounds list a (n / l) (n % l)

  pub at_least : count a list * (n / l) ≤ count a (around n list)
  at_least = omega (arith, counted_around, mul_comm (count a list) (n / l))

  pub at_most : count a (around n list) ≤ count a list * ((n + l - 1) / l)
  unfolding around count
  at_most =
      let q = n / l in
      let r = n % l in
      let less : r < l = mod-lt n some in
      let whole : q * l + r ≡ n = div-add-mod' n l in
      let (none, more) = ceiling l q r some less in
      by (eqb r 0)
      (λ e.
      let zero_left = eqb-true r 0 e in
      let up : (n + l - 1) / l ≡ q = ap (λ (k : ℕ). (k + l - 1) / l) (sym whole) ∙ none zero_left in
      let rest : count a (around r list) ≡ 0 = ap (λ (k : ℕ). count a (around k list)) zero_left ∙ refl in
      rw up (omega (arith, counted_around, mul_comm (count a list) q)))
      (λ e.
      let up : (n + l - 1) / l ≡ q + 1 = ap (λ (k : ℕ). (k + l - 1) / l) (sym whole) ∙ more (eqb-false r 0 e) in
      rw up (omega (arith, counted_around, part_count list a r (omega arith), mul_comm (count a list) q)))

-- ---- the address of each of them

turned_add : (n m : ℕ) (list : List ℕ) → turned (n + m) list ≡ turned m (turned n list)
unfolding turned
turned_add zero m list = ap (λ (k : ℕ). turned k list) (zero-add m)
turned_add (suc n) m list = ap (λ (k : ℕ). turned k list) (suc-add n m) ∙ turned_add n m (rotated list)

turned_rounds : (list : List ℕ) (q r : ℕ) → turned (q * length list + r) list ≡ turned r list
turned_rounds list zero r = ap (λ (k : ℕ). turned k list) (ap (λ (k : ℕ). k + r) (zero-mul (length list)) ∙ zero-add r)
turned_rounds list (suc q) r =
    let split : suc q * length list + r ≡ length list + (q * length list + r) = omega (arith, suc-mul q (length list)) in
    ap (λ (k : ℕ). turned k list) split
    ∙ turned_add (length list) (q * length list + r) list
    ∙ ap (turned (q * length list + r)) (turned_round list)
    ∙ turned_rounds list q r

around_at : (n : ℕ) (list : List ℕ) (i : ℕ) → i < n → get_or (around n list) i 0 ≡ get_or (turned i list) 0 0
unfolding around turned
around_at zero list i h = absurd (omega arith)
around_at (suc n) list zero h = refl
around_at (suc n) list (suc i) h = around_at n (rotated list) i (omega arith)

-- the list's, round and round
pub in_turn : (n : ℕ) (list : List ℕ) → 0 < length list → (i : ℕ) → i < n → get_or (around n list) i 0 ≡ get_or list (i % length list) 0
in_turn n list some i h =
    let l = length list in
    around_at n list i h
    ∙ ap (λ (k : ℕ). get_or (turned k list) 0 0) (sym (div-add-mod' i l))
    ∙ ap (λ (x : List ℕ). get_or x 0 0) (turned_rounds list (i / l) (i % l))
    ∙ first_turned list (i % l) (mod-lt i some)
