-- Document 02, No. 5: "a list of 20 to 50 addresses with exactly those turns, no two neighbours equal around the ring".
-- Assumes nothing.
use Rattle.std.specs.Prelude.{List, [], ◌∷◌, ◌≡◌, ℕ, ◌+◌, ◌-◌, ◌≤◌, ◌<◌, eqb, length, get_or}
use Rattle.laws.specs.Pick.{pick}
use Rattle.shares.specs.Wanted.{turns_for}
use Rattle.shares.specs.declared.wanted.Share.{Share}

-- how often an address stands in a list
abbrev pub same : ℕ → ℕ → ℕ
same there address = pick (eqb there address) 1 0

unfoldable pub count : ℕ → List ℕ → ℕ
count address [] = 0
count address (there ∷ list) = same there address + count address list

-- the last address, or 0
abbrev pub last_of : List ℕ → ℕ
last_of list = get_or list (length list - 1) 0

-- a list that is asked for, over lists alone
pub record Loadable (wanted : List Share) (list : List ℕ) : Type 0 where
  -- "20 to 50 addresses"
  pub least : 20 ≤ length list
  pub most : length list ≤ 50
  -- "with exactly those turns": each wanted address its turns, and no other address
  pub exact : (address : ℕ) → count address list ≡ turns_for address wanted
  -- "no two neighbours equal"
  pub apart : (place : ℕ) → place + 1 < length list → get_or list place 0 ≡ get_or list (place + 1) 0 → ⊥
  -- "around the ring"
  pub ring : last_of list ≡ get_or list 0 0 → ⊥
