-- A planned list on a link of two units: what the promise asks is so there, as the prover computes it.
-- Assumes nothing.
use Rattle.std.proofs.Common.{inl, sym, lit<}
use Rattle.std.specs.Prelude.{List, [], ◌∷◌, ◌++◌, ◌≡◌, refl, ℕ, zero, suc, replicate}
use Rattle.cells.specs.Fitted.{unit_fitted}
use Rattle.codec.specs.Rings.{in_order, laid_from}
use Rattle.cells.specs.Index.{row}
use Rattle.cells.specs.Ranges.{in_range}
use Rattle.cells.specs.Search.{first_found}
use Rattle.fitting.specs.Fit.{units_fitted}
use Rattle.fitting.specs.SetUp.{taken_by, units_good}
use Rattle.master.specs.Ring.{differ}
use Rattle.promise.specs.World.{World, Event, fit, slice, step, run}
use Rattle.shares.proofs.Example.{room, times, half_and_quarters}
use Rattle.turns.specs.Addresses.{addresses}
use Rattle.turns.specs.Loading.{Empty, Clears, writes, printed}
use Rattle.turns.proofs.Promise.{planned_goes}
use Rattle.turns.specs.Round.{GoesRound}

abbrev blank : World
blank = record { cells = replicate 470 0; memory = λ k. [] }

-- two units, with the addresses 1 and 2
abbrev fitted : World
fitted = step (fit ((1 ∷ 1 ∷ 2 ∷ 1 ∷ []) ++ (2 ∷ 2 ∷ 2 ∷ 1 ∷ []))) blank

-- unit 1's address silo is empty
pub empty : Empty 1 fitted.cells
unfolding unit_fitted units_fitted taken_by units_good in_range in_order laid_from row
empty = record { ranged = refl; fitted = lit< tt; none = refl; not_reading = refl }

-- MASTER, and AUT ADR cleared
pub clears : Clears 1
clears = record { byte = lit< tt; auto_address = refl; clear_addresses = refl }

-- half of the turns for address 1 and a quarter for 2 and 3: loaded at unit 1, the list goes round
abbrev list : List ℕ
list = times 5 (1 ∷ 2 ∷ 1 ∷ 3 ∷ [])

pub goes : GoesRound 1 list (run (writes 1 list 1) fitted).cells
unfolding unit_fitted units_fitted taken_by units_good in_order laid_from row
goes =
    planned_goes (1 ∷ 10 ∷ 2 ∷ 5 ∷ 3 ∷ 5 ∷ []) room (list ++ replicate 30 0) 20 (sym half_and_quarters) 1 fitted empty 1 clears refl (inl refl)

-- the writes that tools/shares prints do it too, and 21 slices in a row then have the addresses of the list, and the first one again
abbrev slices : ℕ → List Event
slices zero = []
slices (suc n) = slice 0 0 ∷ slices n

pub went_round : addresses (run (printed 1 list) fitted) (slices 21) ≡ list ++ (1 ∷ [])
unfolding unit_fitted units_fitted taken_by units_good in_range first_found addresses differ in_order laid_from row
went_round = refl
