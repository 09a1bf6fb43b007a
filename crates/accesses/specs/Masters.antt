-- Document 01, The master section: at most one unit has MASTER. The header says which: 0 for none, else its number and 1.
-- Assumes nothing.
use Rattle.std.specs.Prelude.{ℕ, ◌+◌, eqb}
use Rattle.laws.specs.Pick.{pick}
use Rattle.master.specs.declared.side.Mastership.{Mastership}

-- seen from a unit
abbrev pub mastership_of : ℕ → ℕ → Mastership
mastership_of holder unit = pick (eqb holder 0) Mastership.Nobody (pick (eqb holder (unit + 1)) Mastership.Own Mastership.Other)

-- and the header's cell, as an access of that unit leaves it
abbrev pub holder_after : ℕ → ℕ → Mastership → ℕ
holder_after holder unit Mastership.Nobody = 0
holder_after holder unit Mastership.Own = unit + 1
holder_after holder unit Mastership.Other = holder

-- "TX INIT also clears MASTER": at its own unit (reading 19: NOW MST too falls by it)
abbrev pub released : ℕ → ℕ → ℕ
released holder unit = pick (eqb holder (unit + 1)) 0 holder
