-- A whole transfer in a run of calls. `Event` has none, and needs none: a transfer call leaves what so many moves leave, one after the other.
-- So what is said of every run of calls, here and in `channels`, `layouts`, `turns` and `arrival`, is said of one with transfers too: each is
-- there as its moves. The two calls of who wants service leave everything, and are no events either.
-- Assumes nothing.
use Rattle.std.specs.Prelude.{List, [], ◌∷◌, ◌≡◌, ℕ, zero, suc}
use Rattle.pcl.specs.Service.{transfer_call}
use Rattle.service.specs.Transfers.{Lent, lent}
use Rattle.promise.specs.World.{World, Event, move, run, with_memory}

-- so many moves at a side
unfoldable pub moves_at : ℕ → ℕ → ℕ → List Event
moves_at zero unit side = []
moves_at (suc n) unit side = move unit side ∷ moves_at n unit side

-- what a call leaves that is lent the memory of the unit that it names
abbrev pub lent_to : World → ℕ → Lent → World
lent_to w unit l = record { cells = l.cells; memory = with_memory w.memory unit l.memory }

abbrev pub transferred : World → ℕ → ℕ → World
transferred w unit side = let o = transfer_call w.cells (w.memory unit) unit side in lent_to w unit (lent o.1 o.2)

-- how many moves, and that they leave the same cells and memories. (`outcomes`, `Transfers`, has what each of them answers.)
pub record AsMoves (w : World) (unit side : ℕ) : Type 0 where
  pub moves : ℕ
  pub same : run (moves_at moves unit side) w ≡ transferred w unit side
