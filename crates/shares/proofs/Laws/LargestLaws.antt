-- The transmitter that wants the most turns: none wants more, and it is one of them.
-- Assumes nothing.
use Rattle.std.specs.Prelude.{false, List, [], ◌∷◌, ◌≡◌, refl, ℕ, suc, ◌≤◌, ◌<◌, ltb, length}
use Rattle.std.proofs.Common.{sym, ap, ◌∙◌, arith, ltb-true, ltb-false}
use Rattle.laws.specs.Pick.{by}
use Rattle.shares.specs.Arranging.{larger, largest_from, largest}
use Rattle.shares.specs.Refusals.{any_twice}
use Rattle.shares.specs.Wanted.{no_share, share_at, total, turns_for}
use Rattle.shares.specs.Laws.Counting.{turns_at}
use Rattle.shares.specs.Laws.NearLaws.{Most}
use Rattle.shares.specs.declared.wanted.Share.{Share}

most_larger : (most share : Share) → (most.turns ≤ (larger most share).turns) × (share.turns ≤ (larger most share).turns)
most_larger most share =
    by (ltb most.turns share.turns) (λ t. rw t (omega (arith, ltb-true most.turns share.turns t), omega arith))
    (λ t. rw t (omega arith, ltb-false most.turns share.turns t))

more : (m n : ℕ) (shares : List Share) → m ≤ n → Most m shares → Most n shares
more m n [] h most = tt
more m n (s ∷ shares) h most = (omega (arith, most.0), more m n shares h most.1)

from_most : (most : Share) (shares : List Share)
    → (most.turns ≤ (largest_from most shares).turns) × Most (largest_from most shares).turns shares
unfolding largest_from
from_most most [] = (omega arith, tt)
from_most most (s ∷ shares) =
    let (begun, rest) = from_most (larger most s) shares in
    let (before, here) = most_larger most s in
    (omega arith, (omega arith, rest))

-- one of the shares, by its place
abbrev Among : Share → List Share → Type 0
Among share shares = (i : ℕ) × (i < length shares) × (share_at shares i ≡ share)

-- what was the most so far, or one of the shares
from_one : {X : Type 0} (most : Share) (shares : List Share) → (largest_from most shares ≡ most → X) → (Among (largest_from most shares) shares → X) → X
unfolding largest_from
from_one most [] f g = f refl
from_one most (s ∷ shares) f g =
    by (ltb most.turns s.turns)
    (λ t.
    let e : larger most s ≡ s = rw t in
    from_one (larger most s) shares (λ q. g (0, omega arith, sym (q ∙ e))) (λ a. g (suc a.0, omega (arith, a.1), a.2)))
    (λ t.
    let e : larger most s ≡ most = rw t in
    from_one (larger most s) shares (λ q. f (q ∙ e)) (λ a. g (suc a.0, omega (arith, a.1), a.2)))

module _ (shares : List Share) where
  pub largest_most : Most (largest shares).turns shares
  largest_most = (from_most no_share shares).1

  -- where no address is named twice, the largest has the turns that are wanted for its address
  pub largest_turns : any_twice shares ≡ false → 1 ≤ (largest shares).turns → turns_for (largest shares).address shares ≡ (largest shares).turns
  largest_turns once some =
      from_one no_share shares (λ q. absurd (omega (arith, ap (λ (s : Share). s.turns) q)))
      (λ a. rw a.2 at (turns_at shares once a.0 a.1))

-- where there are turns at all, it has some
none_total : (shares : List Share) → Most 0 shares → total shares ≡ 0
unfolding total
none_total [] most = refl
none_total (s ∷ shares) most = omega (arith, none_total shares most.1, most.0)

pub largest_some : (shares : List Share) → 1 ≤ total shares → 1 ≤ (largest shares).turns
largest_some shares some =
    by (ltb 0 (largest shares).turns) (λ t. ltb-true 0 (largest shares).turns t)
    (λ t.
    absurd (omega (arith, none_total shares (more (largest shares).turns 0 shares (ltb-false 0 (largest shares).turns t) (largest_most shares)))))
