-- A list that was planned is one that the master section takes.
-- Assumes nothing.
use Rattle.std.specs.Prelude.{Bool, true, false, not, ◌&&◌, List, [], ◌∷◌, ◌≡◌, refl, ℕ, suc, ◌<◌, eqb, length, get_or}
use Rattle.std.proofs.Common.{ap, ◌∙◌, arith, le-leb}
use Rattle.laws.specs.Laws.Both.{both}
use Rattle.master.specs.Ring as M
use Rattle.shares.specs.Lists.{Loadable, last_of}
use Rattle.shares.specs.Refusals.{any_outside}
use Rattle.shares.specs.Tested as S
use Rattle.shares.specs.declared.wanted.Share.{Share}
use Rattle.shares.specs.Laws.RingLaws.{differ_of}
use Rattle.shares.proofs.Laws.TestLaws.{loadable_inside}
use Rattle.turns.proofs.Laws.LoadLaws.{Fit}

-- both crates say alike that neighbours differ
same_differ : (previous : ℕ) (list : List ℕ) → M.differ previous list ≡ S.differ previous list
unfolding M.differ S.differ
same_differ previous [] = refl
same_differ previous (a ∷ list) = ap (λ (b : Bool). not (eqb a previous) && b) (same_differ a list)

pub may_start : (shares : List Share) (list : List ℕ) → Loadable shares list → M.may_start list ≡ true
may_start shares list l =
    both (both (le-leb 20 (length list) l.least) (le-leb (length list) 50 l.most))
    (same_differ (last_of list) list ∙ differ_of list l.apart l.ring)

fit_by : (list : List ℕ) → ((i : ℕ) → i < length list → get_or list i 0 < 32) → Fit list
fit_by [] f = tt
fit_by (a ∷ list) f = (f 0 (omega arith), fit_by list (λ i h. f (suc i) (omega arith)))

pub fit : (shares : List Share) → any_outside shares ≡ false → (list : List ℕ) → Loadable shares list → Fit list
fit shares inside list l = fit_by list (λ i h. omega (arith, (loadable_inside shares inside list l i h).1))
