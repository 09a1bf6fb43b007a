-- What a fit stores: a unit's own cells are read as they were stored, and the header puts the state in range.
-- Assumes nothing.
use Rattle.std.specs.Prelude.{true, List, [], ◌∷◌, ◌≡◌, ℕ, ◌+◌, ◌≤◌, ◌<◌, length}
use Rattle.std.proofs.Common.{arith}
use Rattle.codec.specs.Window.{cell, splice}
use Rattle.codec.specs.Laws.WindowLaws.{length_splice, cell_inside}
use Rattle.cells.specs.Layout.{unit_place, transmitter_address, receiver_address, memory_length, enc_unit}
use Rattle.cells.specs.Ranges.{in_range}
use Rattle.cells.specs.Laws.RangeLaws.{in_range_is}

-- ---- a unit's own cells

module _ (transmitter receiver memory : ℕ) (cells : List ℕ) (u : ℕ) (fits : unit_place u + 4 ≤ length cells) where
  at : (k : ℕ) → k < 4 → cell (splice cells (unit_place u) (enc_unit transmitter receiver memory)) (unit_place u + k) ≡ cell (enc_unit transmitter receiver memory) k
  at k h = cell_inside cells (unit_place u) (enc_unit transmitter receiver memory) fits k h

  pub transmitter_address_stored : 1 ≤ transmitter → transmitter ≤ 31 → transmitter_address (splice cells (unit_place u) (enc_unit transmitter receiver memory)) u ≡ transmitter
  transmitter_address_stored least most = omega (arith, at 0 (omega arith))

  pub receiver_address_stored : 1 ≤ receiver → receiver ≤ 31 → receiver_address (splice cells (unit_place u) (enc_unit transmitter receiver memory)) u ≡ receiver
  receiver_address_stored least most = omega (arith, at 1 (omega arith))

  pub memory_length_stored : 1 ≤ memory → memory ≤ 131072 → memory_length (splice cells (unit_place u) (enc_unit transmitter receiver memory)) u ≡ memory
  memory_length_stored least most = rw (at 2 (omega arith), at 3 (omega arith)) (omega arith)

-- ---- the header

pub fit_in_range : (cells : List ℕ) (n : ℕ) → n ≤ 16 → unit_place n ≤ length cells → in_range (splice cells 0 (n ∷ 0 ∷ [])) ≡ true
fit_in_range cells n most room =
    let w : List ℕ = n ∷ 0 ∷ [] in
    let l : length (splice cells 0 w) ≡ length cells = length_splice cells 0 w (omega arith) in
    in_range_is (splice cells 0 w) (record { header = rw l (omega arith); most = most; room = rw l room; holder = omega arith })
