-- Document 02, No. 5: "In any W slices of a list of L, a transmitter with k turns gets at least k times the whole number of L in W, and
-- at most k times W/L rounded up."
-- Assumes nothing.
use Rattle.std.specs.Prelude.{ℕ, ◌+◌, ◌-◌, ◌*◌, ◌/◌, ◌≤◌}

abbrev pub rounded_up : ℕ → ℕ → ℕ
rounded_up slices long = (slices + long - 1) / long

pub record Share (turns slices long gets : ℕ) : Type 0 where
  pub least : turns * (slices / long) ≤ gets
  pub most : gets ≤ turns * rounded_up slices long
