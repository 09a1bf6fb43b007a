-- The record of a master section: the values it may take, and its initial state.
-- Assumes nothing.
use Rattle.std.specs.Prelude.{true, false, ◌≡◌, ℕ, ◌≤◌, ◌<◌}
use Rattle.silos.specs.Silo.{Sized, no_words, is_empty}
use Rattle.silos.specs.declared.Silo.{Silo}
use Rattle.master.specs.declared.side.Master.{Master}

-- the values it may take: the address silo holds at most 50; the counter stands between 1 and its switch, which is 2 to 31
-- (docs/DECISIONS.md, "The counter stays between 1 and the switch"); and where AUT ADR is clear an address is held, since "An empty
-- address silo sets AUT ADR at once."
pub record Within (m : Master) : Type 0 where
  pub silo : Sized 50 m.addresses
  pub least : 1 ≤ m.place
  pub most : m.place ≤ m.switch
  pub two : 2 ≤ m.switch
  pub switch : m.switch < 32
  pub some : m.auto_address ≡ false → is_empty m.addresses ≡ false

-- "Fit gives every side its initial state": the counter stands at the switch
abbrev pub initial : ℕ → Master
initial switch = record { addresses = no_words; auto_address = true; secondary = false; now_master = false; place = switch; switch = switch }

-- "TX INIT also clears MASTER, SEC, NOW MST, empties the address silo and sets AUT ADR. Reset does both sides."
abbrev pub initialised : Master → Master
initialised m = initial m.switch

-- ---- with a part changed

abbrev pub with_addresses : Master → Silo → Master
with_addresses m addresses =
    record { addresses = addresses; auto_address = m.auto_address; secondary = m.secondary; now_master = m.now_master; place = m.place; switch = m.switch }

abbrev pub with_place : Master → ℕ → Master
with_place m place =
    record { addresses = m.addresses; auto_address = m.auto_address; secondary = m.secondary; now_master = m.now_master; place = place; switch = m.switch }
