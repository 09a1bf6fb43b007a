-- When the room is too small, or the numbers are odd; and room of exactly the turns.
-- Assumes nothing.
use Rattle.std.specs.Prelude.{true, false, List, ◌≡◌, ℕ, ◌%◌, ◌≤◌, ◌<◌, ltb, length}
use Rattle.std.proofs.Common.{lt-ltb, le-ltb, eq-eqb, ne_eqb}
use Rattle.laws.specs.Pick.{by}
use Rattle.shares.specs.Arranging.{largest}
use Rattle.shares.specs.Plan.{no_room}
use Rattle.shares.specs.Refusals.{any_twice}
use Rattle.shares.specs.Wanted.{total}
use Rattle.shares.specs.declared.wanted.Share.{Share}

module _ (wanted room : List ℕ) where
  pub short : length room < 50 → no_room wanted room ≡ true
  short h = rw (lt-ltb (length room) 50 h)

  pub odd : (length wanted % 2 ≡ 0 → ⊥) → no_room wanted room ≡ true
  odd h = by (ltb (length room) 50) (λ e. rw e) (λ e. rw (e, ne_eqb (length wanted % 2) 0 h))

  pub enough : 50 ≤ length room → length wanted % 2 ≡ 0 → no_room wanted room ≡ false
  enough h e = rw (le-ltb (length room) 50 h, eq-eqb (length wanted % 2) 0 e)

-- ---- what putting a list there asks

-- as many places as there are turns, some and at most 50
pub record ExactRoom (shares : List Share) (room : List ℕ) : Type 0 where
  pub long : length room ≡ total shares
  pub some : 1 ≤ length room
  pub most : length room ≤ 50

-- and the largest share, no address being named twice
pub record Ready (shares : List Share) (block : Share) (room : List ℕ) : Type 0 where
  pub exact : ExactRoom shares room
  pub first : block ≡ largest shares
  pub once : any_twice shares ≡ false
