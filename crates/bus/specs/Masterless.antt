-- Document 01, The master section: a slice with no master.
-- Assumes nothing.
use Rattle.std.specs.Prelude.{List, ℕ, zero, suc, ◌+◌, ltb}
use Rattle.cells.specs.Fitted.{transmitter_of, master_of, put_transmitter, put_master}
use Rattle.cells.specs.Layout.{count_in, put_holder}
use Rattle.cells.specs.Search.{first_secondary}
use Rattle.laws.specs.Pick.{pick}
use Rattle.master.specs.Section.{taken_over}
use Rattle.transmitter.specs.Down.{misses_master, master_missed}

-- "the lowest unit with SEC takes MASTER and NOW MST and loses SEC": the header says who has MASTER. Its counter restarts (reading 21).
abbrev pub taken_over_by : List ℕ → ℕ → List ℕ
taken_over_by cells unit = put_holder (put_master cells unit (taken_over (master_of cells unit))) (unit + 1)

-- "every transmitter with SND WD and a word gets MST DWN", also with destination 0 or ERR standing (reading 20): any other stays as it
-- was
abbrev pub missed_at : List ℕ → ℕ → List ℕ
missed_at cells unit =
    pick (misses_master (transmitter_of cells unit)) (put_transmitter cells unit (master_missed (transmitter_of cells unit))) cells

-- the first n units' transmitters
unfoldable pub missed_up_to : ℕ → List ℕ → List ℕ
missed_up_to zero cells = cells
missed_up_to (suc n) cells = missed_at (missed_up_to n cells) n

-- "A slice with no master: the lowest unit with SEC ..; if there is none, every transmitter .." The lowest is by unit number (reading 19);
-- the new master serves from the next slice (reading 20).
abbrev pub taken_over_or : List ℕ → ℕ → List ℕ
taken_over_or cells unit = pick (ltb unit 16) (taken_over_by cells unit) (missed_up_to (count_in cells) cells)

abbrev pub without_master : List ℕ → List ℕ
without_master cells = taken_over_or cells (first_secondary cells (count_in cells))
