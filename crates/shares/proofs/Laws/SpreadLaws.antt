-- How long a list is, whichever it is.
-- Assumes nothing.
use Rattle.std.specs.Prelude.{false, List, [], ◌∷◌, ◌≡◌, refl, ℕ, zero, suc, ◌≤◌, length}
use Rattle.std.proofs.Common.{◌∙◌, arith, length-append}
use Rattle.laws.specs.Pick.{either}
use Rattle.shares.specs.Plan.{spread_of, planned}
use Rattle.shares.specs.Refusals.{any_twice}
use Rattle.shares.specs.Spreading.{next_address, spread}
use Rattle.shares.specs.Tested.{loadable}
use Rattle.shares.specs.Wanted.{total}
use Rattle.shares.proofs.Laws.ArrangeLaws.{length_arranged}
use Rattle.shares.specs.declared.wanted.Share.{Share}

pub length_spread : (all early : ℕ) (shares : List Share) (n : ℕ) → length (spread all early shares n) ≡ n
unfolding spread
length_spread all early shares zero = refl
length_spread all early shares (suc n) =
    length-append (spread all early shares n) (next_address all early shares (spread all early shares n) ∷ [])
    ∙ omega (arith, length_spread all early shares n)

pub length_planned : (shares : List Share) → any_twice shares ≡ false → 1 ≤ total shares → length (planned shares) ≡ total shares
length_planned shares once some =
    either (λ (l : List ℕ). length l ≡ total shares) (loadable shares (spread_of 0 shares)) (λ e. length_spread (total shares) 0 shares (total shares))
    (λ e.
    either (λ (l : List ℕ). length l ≡ total shares) (loadable shares (spread_of 1 shares)) (λ f. length_spread (total shares) 1 shares (total shares))
    (λ f. length_arranged shares once some))
