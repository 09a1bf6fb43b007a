-- Place by place, each by those before it.
use mathlib.Core.List.{List, [], ◌∷◌, ◌++◌}
use mathlib.Core.Path.{◌≡◌, refl, ap, ◌∙◌}
use Prim.Native.Nat.{ℕ, ◌+◌, ◌<◌}
use native.Mathlib.Numerals.{add-one}
use native.Mathlib.Omega.{arith}
use lib.ListN.{length, take, set, length-set}
use lib.Seq.{take-suc-set}
use Rattle.shares.specs.Spreading.{next_address, spread}
use Rattle.shares.specs.Wanted.{shares_in}
use Rattle.shares.proofs.spreading.spread_out.Goals as goal

pub loop-place-init : goal.loop-place-init
unfolding spread
loop-place-init c = (refl, refl, refl, omega arith, refl)

pub loop-place-preserved : goal.loop-place-preserved
unfolding spread
loop-place-preserved c =
    let l = c.loop-place in
    let a = c.args in
    let shares = shares_in a.wanted.now in
    let total = length a.list.now in
    let front = spread total a.early shares l.place in
    let x = c.next_address.result in
    let inside : l.place < length l.list = omega arith in
    let chosen : x ≡ next_address total a.early shares front =
    c.next_address.ensures
    ∙ ap (λ (n : ℕ). next_address n a.early shares (take l.place l.list)) l.invariant.2
    ∙ ap (next_address total a.early shares) l.invariant.4 in
    let now : take (l.place + 1) (set l.list l.place x) ≡ spread total a.early shares (l.place + 1) =
    rw (add-one l.place)
    (take-suc-set l.list l.place x inside
    ∙ ap (λ (f : List ℕ). f ++ (x ∷ [])) l.invariant.4
    ∙ ap (λ (y : ℕ). front ++ (y ∷ [])) chosen) in
    (l.invariant.0, length-set l.list l.place x ∙ l.invariant.1, l.invariant.2, omega arith, now)
