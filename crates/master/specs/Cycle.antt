-- The cycle in which a master gives the transmitter addresses, in either mode: one a slice, and round again.
-- Assumes nothing.
use Rattle.std.specs.Prelude.{List, [], ◌∷◌, ◌++◌, ℕ, zero, suc, ◌-◌}
use Rattle.laws.specs.Pick.{pick}
use Rattle.silos.specs.Silo.{count}
use Rattle.master.specs.Ring.{addresses_in}
use Rattle.master.specs.declared.side.Master.{Master}

-- n addresses from a down
unfoldable pub down : ℕ → ℕ → List ℕ
down zero a = []
down (suc n) a = a ∷ down n (a - 1)

-- "switch, switch - 1, .. 1, switch": from where the counter stands down to 1, and from the switch down to there
abbrev pub counter_cycle : ℕ → ℕ → List ℕ
counter_cycle place switch = down place place ++ down (switch - place) switch

-- the addresses of the slices to come, until they come again
abbrev pub cycle_of : Master → List ℕ
cycle_of m = pick m.auto_address (counter_cycle m.place m.switch) (addresses_in m.addresses)

-- Conditions of demand 3: "the cycle of L (the switch, or the silo's length)". It is the length of `cycle_of` (`CycleLaws`, `length_cycle`).
abbrev pub cycle_length : Master → ℕ
cycle_length m = pick m.auto_address m.switch (count m.addresses)
