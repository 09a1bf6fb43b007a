-- Document 02, No. 5: "A planner gives each transmitter a wanted number of turns".
-- Assumes nothing.
use Rattle.std.specs.Prelude.{List, [], ◌∷◌, ℕ, ◌+◌, eqb, get_or}
use Rattle.laws.specs.Pick.{pick}
use Rattle.shares.specs.declared.wanted.Share.{Share}

-- two numbers for each transmitter: its address, and its turns
unfoldable pub shares_in : List ℕ → List Share
shares_in [] = []
shares_in (address ∷ []) = []
shares_in (address ∷ turns ∷ wanted) = record { address = address; turns = turns } ∷ shares_in wanted

-- the turns that are wanted for an address: none where it is not named
unfoldable pub turns_for : ℕ → List Share → ℕ
turns_for address [] = 0
turns_for address (share ∷ shares) = pick (eqb share.address address) share.turns 0 + turns_for address shares

-- all turns together
unfoldable pub total : List Share → ℕ
total [] = 0
total (share ∷ shares) = share.turns + total shares

-- a transmitter by its place
abbrev pub no_share : Share
no_share = record { address = 0; turns = 0 }

abbrev pub share_at : List Share → ℕ → Share
share_at shares place = get_or shares place no_share
