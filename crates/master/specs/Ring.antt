-- Document 01, The master section: "Clearing AUT ADR (bit 12 written 0 while set) succeeds only with 20 to 50 addresses, no two
-- neighbours equal around the ring; else 5."
-- Assumes nothing.
use Rattle.std.specs.Prelude.{Bool, true, not, ◌&&◌, List, [], ◌∷◌, map, ℕ, ◌-◌, ◌%◌, eqb, leb, get_or, length}
use Rattle.silos.specs.Silo.{words}
use Rattle.silos.specs.declared.Silo.{Silo}

-- "loaded as an address (mod 32)"
abbrev pub address : ℕ → ℕ
address word = word % 32

-- the addresses of an address silo, the oldest first
abbrev pub addresses_in : Silo → List ℕ
addresses_in silo = map address (words silo)

-- each address differs from the one before it, which for the first is `previous`
unfoldable pub differ : ℕ → List ℕ → Bool
differ previous [] = true
differ previous (a ∷ later) = not (eqb a previous) && differ a later

-- around the ring, the last stands before the first
abbrev pub last_of : List ℕ → ℕ
last_of ring = get_or ring (length ring - 1) 0

-- "20 to 50 addresses, no two neighbours equal around the ring"
abbrev pub may_start : List ℕ → Bool
may_start ring = leb 20 (length ring) && leb (length ring) 50 && differ (last_of ring) ring
