-- Document 02, No. 5: "Refusals, in order: address outside 1 to 31, address named twice, total outside 20 to 50, no such list." A bad
-- address anywhere goes before one that is named twice; an address with no turns is named too.
-- Assumes nothing.
use Rattle.std.specs.Prelude.{Bool, false, ◌||◌, List, [], ◌∷◌, ℕ, ◌*◌, ltb, eqb}
use Rattle.laws.specs.Pick.{pick}
use Rattle.shares.specs.Arranging.{largest}
use Rattle.shares.specs.Wanted.{total}
use Rattle.shares.specs.declared.wanted.Share.{Share}

-- "address outside 1 to 31"
abbrev pub outside : ℕ → Bool
outside address = ltb address 1 || ltb 31 address

unfoldable pub any_outside : List Share → Bool
any_outside [] = false
any_outside (share ∷ shares) = outside share.address || any_outside shares

-- "address named twice"
unfoldable pub named : ℕ → List Share → Bool
named address [] = false
named address (share ∷ shares) = eqb share.address address || named address shares

unfoldable pub any_twice : List Share → Bool
any_twice [] = false
any_twice (share ∷ shares) = named share.address shares || any_twice shares

-- "total outside 20 to 50": the true sum
abbrev pub wrong_total : ℕ → Bool
wrong_total sum = ltb sum 20 || ltb 50 sum

-- the sum as the code has it: any above 50 is 51
abbrev pub up_to51 : ℕ → ℕ
up_to51 sum = pick (ltb 50 sum) 51 sum

-- "no such list": one transmitter wants more than half of the turns. That this is so exactly when there is none is proved, in `Promise`
abbrev pub no_such_list : List Share → Bool
no_such_list shares = ltb (total shares) (2 * (largest shares).turns)
