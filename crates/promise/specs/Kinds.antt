-- What each event is to T: its own slice, a slice that serves another, or no slice.
-- Assumes nothing.
use Rattle.std.specs.Prelude.{◌&&◌, ◌||◌, List, [], ◌∷◌, ℕ, suc, eqb, Result, Option}
use Rattle.laws.specs.Pick.{pick}
use Rattle.pcl.specs.Link.{slice_call}
use Rattle.pcl.specs.Numbers.{slice_number, slice_value, address_of}
use Rattle.promise.specs.World.{World, Event, fit, write, write_byte, read, slice, move, period, reset, level, serial, host_write, step}
use Rattle.words.specs.declared.answers.Refusal.{Refusal}
use Rattle.bus.specs.declared.slice.Given.{Given}

pub data Kind : Type 0 where
  own other quiet : Kind

-- "A slice call answered 7 or 9 isn't counted." T's own are those answered 0 with its address.
abbrev pub slice_kind : ℕ → Result (Option Given) Refusal → Kind
slice_kind address call =
    pick (eqb (slice_number call) 7 || eqb (slice_number call) 9) quiet
    (pick (eqb (slice_number call) 0 && eqb (address_of (slice_value call)) address) own other)

abbrev pub kind_of : ℕ → Event → World → Kind
kind_of address (fit setup) w = quiet
kind_of address (write unit offset word) w = quiet
kind_of address (write_byte unit offset byte) w = quiet
kind_of address (read unit offset) w = quiet
kind_of address (slice mask parity) w = slice_kind address (slice_call w.cells mask parity).0
kind_of address (move unit side) w = quiet
kind_of address (period unit) w = quiet
kind_of address (reset unit) w = quiet
kind_of address (level unit side) w = quiet
kind_of address (serial unit side) w = quiet
kind_of address (host_write unit place word) w = quiet

-- ---- of a run

abbrev pub kinds : ℕ → World → List Event → List Kind
kinds address w [] = []
kinds address w (e ∷ es) = kind_of address e w ∷ kinds address (step e w) es

-- how many are T's own slices
abbrev pub owns : List Kind → ℕ
owns [] = 0
owns (own ∷ ks) = suc (owns ks)
owns (other ∷ ks) = owns ks
owns (quiet ∷ ks) = owns ks

-- the slices, T's own or not
abbrev pub slots : List Kind → List Kind
slots [] = []
slots (own ∷ ks) = own ∷ slots ks
slots (other ∷ ks) = other ∷ slots ks
slots (quiet ∷ ks) = slots ks
