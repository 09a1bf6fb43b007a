-- A fit with room enough leaves a state in range, and its index filled: a good set-up names at most 16 units.
-- Assumes nothing.
use Rattle.std.specs.Prelude.{true, false, List, ◌≡◌, refl, ℕ, ◌≤◌, ltb, length}
use Rattle.std.proofs.Common.{arith, le-ltb, ltb-false}
use Rattle.cells.specs.Index.{Indexed}
use Rattle.cells.specs.Layout.{unit_place}
use Rattle.cells.specs.Ranges.{in_range}
use Rattle.fitting.specs.Fit.{fit}
use Rattle.fitting.specs.SetUp.{count_of, set_up_good}
use Rattle.fitting.specs.Laws.SetUpLaws.{good_says}
use Rattle.frames.specs.Laws.Fits.{fit_indexed, fit_ranged}
use Rattle.laws.specs.Pick.{past}
use Rattle.pcl.specs.Link.{room_for}

module _ (cells setup : List ℕ) (good : set_up_good setup ≡ true) (enough : ltb (length cells) (room_for (count_of setup)) ≡ false) where
  room : unit_place (count_of setup) ≤ length cells
  room =
      let few : unit_place (count_of setup) ≡ room_for (count_of setup) = past _ (le-ltb _ _ (good_says setup good).most) refl in
      omega (arith, few, ltb-false (length cells) (room_for (count_of setup)) enough)

  pub room_ranged : in_range (fit cells setup) ≡ true
  room_ranged = fit_ranged setup cells good room

  pub room_indexed : Indexed (fit cells setup)
  room_indexed = fit_indexed setup cells good room
