-- The calls at one side of a unit, "side neither 0 nor 1" being number 1: 0 transmits, 1 receives.
-- Assumes nothing.
use Rattle.std.specs.Prelude.{List, ℕ, ltb, eqb, length, Result, Option, Ok, Err, Bool}
use Rattle.cells.specs.Fitted.{transmitter_of, receiver_of}
use Rattle.cells.specs.Layout.{memory_length}
use Rattle.laws.specs.Pick.{pick}
use Rattle.moves.specs.Moving.{transmitter_moved, receiver_moved}
use Rattle.receiver.specs.Requests as R
use Rattle.transmitter.specs.Requests as T
use Rattle.words.specs.declared.answers.Refusal.{Refusal}
use Rattle.pcl.specs.Calls.{admitted}
use Rattle.pcl.specs.declared.units.Which.{Which}

-- the transmitter's, the receiver's, or 1
abbrev pub at_side : {A : Type 0} → ℕ → A → A → A → A
at_side side transmitter receiver none = pick (eqb side 0) transmitter (pick (eqb side 1) receiver none)

-- and the side that is named
abbrev pub side_named : ℕ → Result Which Refusal
side_named side = at_side side (Ok Which.Transmitter) (Ok Which.Receiver) (Err Refusal.NoUnit)

-- memory move (unit, side): a transmitter's leaves the memory
abbrev pub sent_by : List ℕ → Result (Option ℕ) Refusal × List ℕ → Result (Option ℕ) Refusal × List ℕ × List ℕ
sent_by memory p = (p.0, p.1, memory)

abbrev pub received_by : Result (Option ℕ) Refusal × List ℕ × List ℕ → Result (Option ℕ) Refusal × List ℕ × List ℕ
received_by p = (p.0, p.1, p.2)

-- 9 "lent room too small": the lent memory has the fitted length of the unit that is named, or more; only the words below that length are
-- the memory, and a unit that is not fitted asks for none (reading 33)
abbrev pub fitted_move : List ℕ → List ℕ → ℕ → ℕ → Result (Option ℕ) Refusal × List ℕ × List ℕ
fitted_move cells memory unit side =
    pick (ltb (length memory) (memory_length cells unit)) (Err Refusal.BadState, cells, memory)
    (at_side side (sent_by memory (transmitter_moved cells memory unit)) (received_by (receiver_moved cells memory unit)) (Err Refusal.NoUnit, cells, memory))

abbrev pub move_call : List ℕ → List ℕ → ℕ → ℕ → Result (Option ℕ) Refusal × List ℕ × List ℕ
move_call cells memory unit side =
    admitted cells unit (Err Refusal.BadState, cells, memory) (Err Refusal.NoUnit, cells, memory) (fitted_move cells memory unit side)

-- interrupt level (unit, side): it changes nothing
abbrev pub fitted_level : List ℕ → ℕ → ℕ → Result Bool Refusal
fitted_level cells unit side =
    at_side side (Ok (T.level_of (transmitter_of cells unit))) (Ok (R.level_of (receiver_of cells unit))) (Err Refusal.NoUnit)

abbrev pub level_call : List ℕ → ℕ → ℕ → Result Bool Refusal
level_call cells unit side = admitted cells unit (Err Refusal.BadState) (Err Refusal.NoUnit) (fitted_level cells unit side)

-- document 02, No. 6: "A call with unit and side shows it", the serial; it changes nothing. "Refusals: as number 1."
abbrev pub fitted_serial : List ℕ → ℕ → ℕ → Result ℕ Refusal
fitted_serial cells unit side =
    at_side side (Ok (transmitter_of cells unit).end.serial) (Ok (receiver_of cells unit).end.serial) (Err Refusal.NoUnit)

abbrev pub serial_call : List ℕ → ℕ → ℕ → Result ℕ Refusal
serial_call cells unit side = admitted cells unit (Err Refusal.BadState) (Err Refusal.NoUnit) (fitted_serial cells unit side)
