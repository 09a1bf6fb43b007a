-- Document 01, The master section, sentence by sentence. Clearing AUT ADR is in `Ring` and `Writing`.
-- Assumes nothing.
use Rattle.std.specs.Prelude.{Bool, true, false, not, ◌&&◌, ℕ, ◌-◌, leb}
use Rattle.laws.specs.Pick.{pick}
use Rattle.silos.specs.declared.Silo.{Silo}
use Rattle.silos.specs.Silo.{is_empty, oldest, put, taken}
use Rattle.master.specs.declared.side.Master.{Master}
use Rattle.master.specs.declared.side.Mastership.{Mastership}
use Rattle.master.specs.declared.side.Mastership.TheVariants.{Nobody, Own, Other}
use Rattle.master.specs.declared.section.Next.{Next}
use Rattle.master.specs.Ring.{address}
use Rattle.master.specs.Side.{with_addresses, with_place}

-- whether this unit has MASTER
abbrev pub has_master : Mastership → Bool
has_master Nobody = false
has_master Own = true
has_master Other = false

-- MASTER as this unit sets or clears it
abbrev pub master_of : Bool → Mastership
master_of bit = pick bit Own Nobody

-- "Setting MASTER while any unit has it changes no MASTER bit; its holder may clear it."
abbrev pub master_written : Mastership → Bool → Mastership
master_written Nobody bit = master_of bit
master_written Own bit = master_of bit
master_written Other bit = Other

-- "Counter mode (AUT ADR set) gives switch, switch - 1, .. 1, switch"
abbrev pub counted_down : ℕ → ℕ → ℕ
counted_down place switch = pick (leb place 1) switch (place - 1)

-- "it restarts when MASTER or AUT ADR goes from clear to set": a bit that stays set does not rise (reading 21)
abbrev pub rises : Bool → Bool → Bool
rises before after = not before && after

-- "Then each slice takes the oldest address and returns it to the end." An empty silo stays as it is. (docs/DECISIONS.md, "An address
-- that goes round is stored mod 32")
abbrev pub returned : Silo → Silo
returned silo = pick (is_empty silo) silo (put 50 (taken silo) (address (oldest silo)))

-- the address of a slice, which may be 0 or one that no transmitter has (reading 19), and the master after it: only the master's counter
-- or silo steps, and only in a slice answered 0 (reading 20)
abbrev pub next_of : Master → Next
next_of m =
    pick m.auto_address (record { address = m.place; side = with_place m (counted_down m.place m.switch) })
    (record { address = address (oldest m.addresses); side = with_addresses m (returned m.addresses) })

-- "the lowest unit with SEC takes MASTER and NOW MST and loses SEC"; its counter restarts, as MASTER is now set (reading 21), and it serves
-- from the next slice on (reading 20)
abbrev pub taken_over : Master → Master
taken_over m =
    record { addresses = m.addresses; auto_address = m.auto_address; secondary = false; now_master = true; place = m.switch; switch = m.switch }
