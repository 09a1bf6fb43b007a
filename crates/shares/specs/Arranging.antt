-- A list for every load that has one. Each transmitter's turns stand in one block, and the blocks in a row, the largest first; the even
-- places of the list take the first half of the row, the odd ones the second.
-- Assumes nothing.
use Rattle.std.specs.Prelude.{List, [], ◌∷◌, ◌++◌, ℕ, ◌+◌, ◌/◌, ◌%◌, ltb, eqb, length, replicate, take, drop}
use Rattle.laws.specs.Pick.{pick}
use Rattle.shares.specs.Wanted.{no_share}
use Rattle.shares.specs.declared.wanted.Share.{Share}

-- the first of those that want the most turns
abbrev pub larger : Share → Share → Share
larger most share = pick (ltb most.turns share.turns) share most

unfoldable pub largest_from : Share → List Share → Share
largest_from most [] = most
largest_from most (share ∷ shares) = largest_from (larger most share) shares

abbrev pub largest : List Share → Share
largest shares = largest_from no_share shares

-- the blocks of all but the first
abbrev pub turns_but : ℕ → Share → ℕ
turns_but first share = pick (eqb share.address first) 0 share.turns

unfoldable pub blocks_but : ℕ → List Share → List ℕ
blocks_but first [] = []
blocks_but first (share ∷ shares) = replicate (turns_but first share) share.address ++ blocks_but first shares

-- the row of all blocks
abbrev pub row_of : Share → List Share → List ℕ
row_of first shares = replicate first.turns first.address ++ blocks_but first.address shares

-- two lists in turn
unfoldable pub woven : List ℕ → List ℕ → List ℕ
woven [] list = list
woven (a ∷ firsts) [] = a ∷ firsts
woven (a ∷ firsts) (b ∷ seconds) = a ∷ b ∷ woven firsts seconds

-- where in the row the address of a place comes from
abbrev pub woven_from : ℕ → ℕ → ℕ
woven_from half place = pick (eqb (place % 2) 0) (place / 2) (half + place / 2)

abbrev pub halves : ℕ → List ℕ → List ℕ
halves half row = woven (take half row) (drop half row)

abbrev pub in_turn : List ℕ → List ℕ
in_turn row = halves ((length row + 1) / 2) row

abbrev pub arranged : List Share → List ℕ
arranged shares = in_turn (row_of (largest shares) shares)
