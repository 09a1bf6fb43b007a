-- A fitted unit in the lent cells: its sides, and the cells with one of them put back.
-- Assumes nothing.
use Rattle.std.specs.Prelude.{List, ℕ, ◌+◌, ◌<◌, ◌≤◌, length, replicate}
use Rattle.codec.specs.Masters.{enc_master, enc_next, master_at}
use Rattle.codec.specs.Receivers.{enc_receiver, receiver_at}
use Rattle.codec.specs.Transmitters.{enc_transmitter, transmitter_at}
use Rattle.codec.specs.Window.{window, splice}
use Rattle.master.specs.declared.side.Master.{Master}
use Rattle.receiver.specs.declared.side.Receiver.{Receiver}
use Rattle.transmitter.specs.declared.side.Transmitter.{Transmitter}
use Rattle.cells.specs.Layout.{unit_place, transmitter_place, receiver_place, master_place}

-- its block is there
pub record Fitted (cells : List ℕ) (unit : ℕ) : Type 0 where
  pub number : unit < 16
  pub room : unit_place unit + 202 ≤ length cells

-- ---- its sides

abbrev pub transmitter_of : List ℕ → ℕ → Transmitter
transmitter_of cells unit = transmitter_at cells (transmitter_place unit)

abbrev pub receiver_of : List ℕ → ℕ → Receiver
receiver_of cells unit = receiver_at cells (receiver_place unit)

abbrev pub master_of : List ℕ → ℕ → Master
master_of cells unit = master_at cells (master_place unit)

-- ---- the cells with a side put back, all the cells of its window

-- the windows that stand there, into which a side is put: its words lie in the ring of the old one
abbrev pub transmitter_cells : List ℕ → ℕ → List ℕ
transmitter_cells cells unit = window cells (transmitter_place unit) 73

abbrev pub receiver_cells : List ℕ → ℕ → List ℕ
receiver_cells cells unit = window cells (receiver_place unit) 73

abbrev pub master_cells : List ℕ → ℕ → List ℕ
master_cells cells unit = window cells (master_place unit) 52

abbrev pub put_transmitter : List ℕ → ℕ → Transmitter → List ℕ
put_transmitter cells unit t = splice cells (transmitter_place unit) (enc_transmitter (transmitter_cells cells unit) t)

abbrev pub put_receiver : List ℕ → ℕ → Receiver → List ℕ
put_receiver cells unit r = splice cells (receiver_place unit) (enc_receiver (receiver_cells cells unit) r)

abbrev pub put_master : List ℕ → ℕ → Master → List ℕ
put_master cells unit m = splice cells (master_place unit) (enc_master (master_cells cells unit) m)

-- a section gone on by a slice
abbrev pub put_next : List ℕ → ℕ → Master → List ℕ
put_next cells unit m = splice cells (master_place unit) (enc_next (master_cells cells unit) m)

-- a unit's block of zeros, and then its four groups, one after the other: whatever stood there, no word of it is left
abbrev pub blank : List ℕ → ℕ → List ℕ
blank cells unit = splice cells (unit_place unit) (replicate 202 0)

unfoldable pub unit_fitted : List ℕ → ℕ → List ℕ → Transmitter → Receiver → Master → List ℕ
unit_fitted cells unit own t r m = put_master (put_receiver (put_transmitter (splice (blank cells unit) (unit_place unit) own) unit t) unit r) unit m
