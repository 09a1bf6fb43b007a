-- The first list that is asked for, or the arrangement.
use mathlib.Core.Bool.{Bool}
use mathlib.Core.List.{List}
use mathlib.Core.Path.{◌≡◌, sym, ap, ◌∙◌}
use Prim.Native.Nat.{ℕ}
use native.Mathlib.Omega.{arith}
use lib.ListN.{length}
use Rattle.shares.specs.Arranging.{row_of}
use Rattle.shares.specs.Wanted.{shares_in, total}
use Rattle.shares.proofs.Laws.ArrangeLaws.{length_row}
use Rattle.shares.proofs.Laws.SpreadLaws.{length_spread}
use Rattle.shares.specs.declared.wanted.Share.{Share}
use Rattle.shares.proofs.planning.put_list.Goals as goal

-- what a try came to, and what stands in the room
module _ {b : Bool} {l : List ℕ} {p : Bool × List ℕ} where
  tested : ◌≡◌ {A = Bool × List ℕ} (b, l) p → b ≡ p.0
  tested e = ap (λ (q : Bool × List ℕ). q.0) e

  put : ◌≡◌ {A = Bool × List ℕ} (b, l) p → l ≡ p.1
  put e = ap (λ (q : Bool × List ℕ). q.1) e

pub arrange-requires : goal.arrange-requires
arrange-requires c =
    let shares = shares_in c.args.wanted.now in
    let row = ap (λ (m : Share). length (row_of m shares)) c.requires.first ∙ length_row shares c.requires.once (omega (arith, c.requires.exact)) in
    let long = ap length (put c.spreads-2.ensures) ∙ length_spread (total shares) 1 shares (total shares) in
    long ∙ sym row
