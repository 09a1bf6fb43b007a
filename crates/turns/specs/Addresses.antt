-- The addresses that the slices of a run answer.
-- Assumes nothing.
use Rattle.std.specs.Prelude.{List, [], ◌∷◌, ◌++◌, ℕ, ◌+◌, eqb, ltb, Result, Option}
use Rattle.laws.specs.Pick.{pick}
use Rattle.pcl.specs.Link.{slice_call}
use Rattle.pcl.specs.Numbers.{slice_number, slice_value, address_of}
use Rattle.promise.specs.World.{World, Event, fit, write, write_byte, read, slice, move, period, reset, level, serial, host_write, step}
use Rattle.words.specs.declared.answers.Refusal.{Refusal}
use Rattle.bus.specs.declared.slice.Given.{Given}

-- a slice call answered 0 has one
abbrev pub answered : Result (Option Given) Refusal → List ℕ
answered call = pick (eqb (slice_number call) 0) (address_of (slice_value call) ∷ []) []

abbrev pub address_in : Event → World → List ℕ
address_in (fit setup) w = []
address_in (write unit offset word) w = []
address_in (write_byte unit offset byte) w = []
address_in (read unit offset) w = []
address_in (slice mask parity) w = answered (slice_call w.cells mask parity).0
address_in (move unit side) w = []
address_in (period unit) w = []
address_in (reset unit) w = []
address_in (level unit side) w = []
address_in (serial unit side) w = []
address_in (host_write unit place word) w = []

-- one after the other
unfoldable pub addresses : World → List Event → List ℕ
addresses w [] = []
addresses w (e ∷ es) = address_in e w ++ addresses (step e w) es

-- ---- and how many slices a run has: those with a parity mask of 0 or 1. "parity mask above 1" is refused

abbrev pub slice_in : Event → ℕ
slice_in (fit setup) = 0
slice_in (write unit offset word) = 0
slice_in (write_byte unit offset byte) = 0
slice_in (read unit offset) = 0
slice_in (slice mask parity) = pick (ltb 1 parity) 0 1
slice_in (move unit side) = 0
slice_in (period unit) = 0
slice_in (reset unit) = 0
slice_in (level unit side) = 0
slice_in (serial unit side) = 0
slice_in (host_write unit place word) = 0

unfoldable pub slices_in : List Event → ℕ
slices_in [] = 0
slices_in (e ∷ es) = slice_in e + slices_in es
