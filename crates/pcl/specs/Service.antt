-- What an emulator asks after every slice (docs/DECISIONS.md, "What an emulator needs"): which sides want service, and a whole transfer at
-- once.
-- Assumes nothing.
use Rattle.std.specs.Prelude.{not, List, ℕ, ltb, length, Result, Ok, Err}
use Rattle.cells.specs.Layout.{memory_length}
use Rattle.cells.specs.Ranges.{in_range}
use Rattle.laws.specs.Pick.{pick}
use Rattle.service.specs.Transfers.{transmitter_transferred, receiver_transferred}
use Rattle.service.specs.Wants.{moves_wanted, interrupts_wanted}
use Rattle.service.specs.declared.transfers.Transfer.{Transfer}
use Rattle.words.specs.declared.answers.Refusal.{Refusal}
use Rattle.pcl.specs.Calls.{admitted}
use Rattle.pcl.specs.Sides.{at_side}

-- 9 "a lent state outside the ranges", and then "sides at which a move would not answer 4": it changes nothing. What each bit says of the
-- move call at its side is in `outcomes`, `Wants`.
abbrev pub wants_moves_call : List ℕ → Result ℕ Refusal
wants_moves_call cells = pick (not (in_range cells)) (Err Refusal.BadState) (Ok (moves_wanted cells))

-- the same for "sides whose interrupt level stands"
abbrev pub wants_interrupts_call : List ℕ → Result ℕ Refusal
wants_interrupts_call cells = pick (not (in_range cells)) (Err Refusal.BadState) (Ok (interrupts_wanted cells))

-- a whole transfer (unit, side): a transmitter's leaves the memory
abbrev pub sent_all_by : List ℕ → Result Transfer Refusal × List ℕ → Result Transfer Refusal × List ℕ × List ℕ
sent_all_by memory p = (p.0, p.1, memory)

abbrev pub received_all_by : Result Transfer Refusal × List ℕ × List ℕ → Result Transfer Refusal × List ℕ × List ℕ
received_all_by p = (p.0, p.1, p.2)

-- refused as a move is (`Sides`, `fitted_move`). That it is so many single calls is in `outcomes`, `Transfers`.
abbrev pub fitted_transfer : List ℕ → List ℕ → ℕ → ℕ → Result Transfer Refusal × List ℕ × List ℕ
fitted_transfer cells memory unit side =
    pick (ltb (length memory) (memory_length cells unit)) (Err Refusal.BadState, cells, memory)
    (at_side side (sent_all_by memory (transmitter_transferred cells memory unit)) (received_all_by (receiver_transferred cells memory unit)) (Err Refusal.NoUnit, cells, memory))

abbrev pub transfer_call : List ℕ → List ℕ → ℕ → ℕ → Result Transfer Refusal × List ℕ × List ℕ
transfer_call cells memory unit side =
    admitted cells unit (Err Refusal.BadState, cells, memory) (Err Refusal.NoUnit, cells, memory) (fitted_transfer cells memory unit side)
