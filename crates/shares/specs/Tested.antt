-- Whether a list is one that is asked for, as a test. It holds exactly of the lists that are `Loadable` (`Promise`, `tested_exact`).
-- Assumes nothing.
use Rattle.std.specs.Prelude.{Bool, true, not, ◌&&◌, List, [], ◌∷◌, ℕ, eqb, leb, length}
use Rattle.shares.specs.Lists.{count, last_of}
use Rattle.shares.specs.Refusals.{named}
use Rattle.shares.specs.declared.wanted.Share.{Share}

-- every address of the list is a wanted one
unfoldable pub all_named : List Share → List ℕ → Bool
all_named shares [] = true
all_named shares (address ∷ list) = named address shares && all_named shares list

-- every transmitter has its turns
unfoldable pub all_counted : List Share → List ℕ → Bool
all_counted [] list = true
all_counted (share ∷ shares) list = eqb (count share.address list) share.turns && all_counted shares list

-- each address differs from the one before it, which for the first is `previous`
unfoldable pub differ : ℕ → List ℕ → Bool
differ previous [] = true
differ previous (address ∷ list) = not (eqb address previous) && differ address list

abbrev pub loadable : List Share → List ℕ → Bool
loadable shares list =
    leb 20 (length list) && (leb (length list) 50 && (all_named shares list && (all_counted shares list && differ (last_of list) list)))
