-- What is said share by share, or address by address, in the words by which a chain of calls is proved.
-- Assumes nothing.
use Rattle.std.specs.Prelude.{List, [], ◌∷◌, ◌≡◌, refl, ℕ, ◌+◌, ◌-◌, ◌≤◌, ◌<◌, eqb, ltb, length, take, drop, min}
use Rattle.std.specs.List.{fold, list_any, list_all, slice_index_or}
use Rattle.std.proofs.Common.{sym, ap, ◌∙◌, arith, take_all, ltb-true, ltb-false}
use Rattle.std.proofs.lemmas.Iterator.{YieldsList}
use Rattle.std.proofs.lemmas.Iterator.Consumers.{YieldsList-from_first}
use Rattle.std.specs.Iterator.{YieldsFirst}
use Rattle.laws.specs.Pick.{by}
use Rattle.shares.specs.Arranging.{larger, largest_from}
use Rattle.shares.specs.Lists.{count, last_of}
use Rattle.shares.specs.Refusals.{outside, any_outside, named, up_to51}
use Rattle.shares.specs.Spreading.{turn_of, better, best_from}
use Rattle.shares.specs.Tested.{all_named, all_counted}
use Rattle.shares.specs.Wanted.{shares_in, total}
use Rattle.shares.specs.declared.spreading.Turn.{Turn}
use Rattle.shares.specs.declared.wanted.Share.{Share}
use Rattle.shares.specs.declared.wanted.Shares.{Shares}

-- ---- the first share of a row of numbers, and what is left

pub no_share_left : (wanted : List ℕ) → length wanted < 2 → shares_in wanted ≡ []
unfolding shares_in
no_share_left [] h = refl
no_share_left (a ∷ []) h = refl
no_share_left (a ∷ k ∷ wanted) h = absurd (omega arith)

pub first_share : (wanted : List ℕ) → 2 ≤ length wanted
    → shares_in wanted ≡ record { address = slice_index_or wanted 0 0; turns = slice_index_or wanted 1 0 } ∷ shares_in (take (length wanted - 2) (drop 2 wanted))
unfolding shares_in
first_share [] h = absurd (omega arith)
first_share (a ∷ []) h = absurd (omega arith)
first_share (a ∷ k ∷ wanted) h =
    let all : take (length (a ∷ k ∷ wanted) - 2) wanted ≡ wanted = take_all (length (a ∷ k ∷ wanted) - 2) wanted (omega arith) in
    ap (λ (l : List ℕ). record { address = a; turns = k } ∷ shares_in l) (sym all)

-- ---- tests of every share, and of every address

pub any_outside_is : (shares : List Share) → any_outside shares ≡ list_any (λ s. outside s.address) shares
unfolding any_outside
any_outside_is [] = refl
any_outside_is (s ∷ shares) = rw (any_outside_is shares)

pub named_is : (address : ℕ) (shares : List Share) → named address shares ≡ list_any (λ s. eqb s.address address) shares
unfolding named
named_is address [] = refl
named_is address (s ∷ shares) = rw (named_is address shares)

pub all_named_is : (shares : List Share) (list : List ℕ) → all_named shares list ≡ list_all (λ address. named address shares) list
unfolding all_named
all_named_is shares [] = refl
all_named_is shares (address ∷ list) = rw (all_named_is shares list)

pub all_counted_is : (shares : List Share) (list : List ℕ) → all_counted shares list ≡ list_all (λ s. eqb (count s.address list) s.turns) shares
unfolding all_counted
all_counted_is [] list = refl
all_counted_is (s ∷ shares) list = rw (all_counted_is shares list)

-- ---- what goes through all shares

pub largest_from_is : (most : Share) (shares : List Share) → largest_from most shares ≡ fold larger most shares
unfolding largest_from
largest_from_is most [] = refl
largest_from_is most (s ∷ shares) = largest_from_is (larger most s) shares

pub best_from_is : (all early : ℕ) (so_far : List ℕ) (best : Turn) (shares : List Share) → best_from all early so_far best shares ≡ fold (λ b s. better (last_of so_far) b (turn_of all early so_far s)) best shares
unfolding best_from
best_from_is all early so_far best [] = refl
best_from_is all early so_far best (s ∷ shares) = best_from_is all early so_far (better (last_of so_far) best (turn_of all early so_far s)) shares

pub capped_total : (sum : ℕ) (shares : List Share) → fold (λ n s. min (min (n + s.turns) 65535) 51) (min sum 51) shares ≡ min (sum + total shares) 51
unfolding total
capped_total sum [] = omega arith
capped_total sum (s ∷ shares) =
    let e : min (min (min sum 51 + s.turns) 65535) 51 ≡ min (sum + s.turns) 51 = omega arith in
    let f : min (sum + s.turns + total shares) 51 ≡ min (sum + (s.turns + total shares)) 51 = omega arith in
    ap (λ (n : ℕ). fold (λ n s. min (min (n + s.turns) 65535) 51) n shares) e ∙ capped_total (sum + s.turns) shares ∙ f

pub up_to51_is : (sum : ℕ) → min (0 + sum) 51 ≡ up_to51 sum
up_to51_is sum = by (ltb 50 sum) (λ e. rw e (omega (arith, ltb-true 50 sum e))) (λ e. rw e (omega (arith, ltb-false 50 sum e)))

-- ---- the shares as a chain of calls gets them

pub all_shares : (left : Shares) (wanted : List ℕ) → left.numbers.now ≡ wanted
    → YieldsList (YieldsFirst (λ (s : Shares). shares_in s.numbers.now)) (λ s. s) left (shares_in wanted)
all_shares left wanted e = YieldsList-from_first (λ s. s) (λ (s : Shares). shares_in s.numbers.now) (shares_in wanted) (ap shares_in e)
