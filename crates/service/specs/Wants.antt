-- Which sides want service: a mask of 32 bits, "bit u the transmitter of unit u, bit 16 + u its receiver". The bits of units that are not
-- fitted are 0. What each bit says of the calls at its side is in `outcomes`, `Wants`.
-- Assumes nothing.
use Rattle.std.specs.Prelude.{Bool, List, ℕ, zero, suc, ◌+◌, ◌*◌, ◌^◌}
use Rattle.cells.specs.Fitted.{transmitter_of, receiver_of}
use Rattle.cells.specs.Layout.{count_in}
use Rattle.laws.specs.Bits.{bit}
use Rattle.receiver.specs.Moves as RM
use Rattle.receiver.specs.Requests as RR
use Rattle.transmitter.specs.Moves as TM
use Rattle.transmitter.specs.Requests as TR

-- a bit for each of so many units from unit u on, that of unit u the lowest
unfoldable pub row_of : (ℕ → Bool) → ℕ → ℕ → ℕ
row_of stands zero u = 0
row_of stands (suc left) u = row_of stands left (suc u) * 2 + bit (stands u)

-- the transmitters' row, and the receivers' above it
abbrev pub mask_of : (ℕ → Bool) → (ℕ → Bool) → ℕ → ℕ
mask_of transmitters receivers count = row_of transmitters count 0 + row_of receivers count 0 * 2 ^ 16

-- "sides at which a move would not answer 4": at a fitted unit a move answers 4 where its side may not move, and only there
abbrev pub moves_wanted : List ℕ → ℕ
moves_wanted cells = mask_of (λ u. TM.may_move (transmitter_of cells u)) (λ u. RM.may_move (receiver_of cells u)) (count_in cells)

-- "sides whose interrupt level stands"
abbrev pub interrupts_wanted : List ℕ → ℕ
interrupts_wanted cells = mask_of (λ u. TR.level_of (transmitter_of cells u)) (λ u. RR.level_of (receiver_of cells u)) (count_in cells)
