-- "the shifting layout" (document 02, No. 7): the order of words as it was before the silos went round, in the cells of now. Every silo's
-- oldest word stands in its first cell, the others behind it in order, and behind them there are zeros.
-- Assumes nothing.
use Rattle.std.specs.Prelude.{List, ◌++◌, ◌≡◌, ℕ, zero, suc, ◌-◌, take, replicate}
use Rattle.cells.specs.Fitted.{transmitter_of, receiver_of, master_of, transmitter_cells, receiver_cells, master_cells}
use Rattle.cells.specs.Layout.{count_in, transmitter_place}
use Rattle.codec.specs.Ends as E
use Rattle.codec.specs.Masters as M
use Rattle.codec.specs.Receivers.{enc_receiver}
use Rattle.codec.specs.Rings.{start_in, length_in, silo_of}
use Rattle.codec.specs.Transmitters.{enc_transmitter}
use Rattle.codec.specs.Window.{cell, window, splice}
use Rattle.silos.specs.Silo.{words}

-- ---- the layout of every state

-- each side, read in whatever layout it lies and written into cells of zeros, where a silo starts at its first cell
abbrev pub transmitter_shifted : List ℕ → ℕ → List ℕ
transmitter_shifted cells unit = enc_transmitter (replicate 73 0) (transmitter_of cells unit)

abbrev pub receiver_shifted : List ℕ → ℕ → List ℕ
receiver_shifted cells unit = enc_receiver (replicate 73 0) (receiver_of cells unit)

abbrev pub master_shifted : List ℕ → ℕ → List ℕ
master_shifted cells unit = M.enc_master (replicate 52 0) (master_of cells unit)

-- a unit's three sides stand one behind the other
abbrev pub sides_shifted : List ℕ → ℕ → List ℕ
sides_shifted cells unit = transmitter_shifted cells unit ++ receiver_shifted cells unit ++ master_shifted cells unit

abbrev pub unit_shifted : List ℕ → ℕ → List ℕ
unit_shifted cells unit = splice cells (transmitter_place unit) (sides_shifted cells unit)

-- the first n units
unfoldable pub units_shifted : ℕ → List ℕ → List ℕ
units_shifted zero cells = cells
units_shifted (suc n) cells = unit_shifted (units_shifted n cells) n

-- every fitted unit
abbrev pub all_shifted : List ℕ → List ℕ
all_shifted cells = units_shifted (count_in cells) cells

-- ---- what it is to be laid so, "once over the silo's size so that 64 and 50 share it"

-- a silo in its cell of start place and length, and in as many cells as its size
pub record FromFirst (size place : ℕ) (ring : List ℕ) : Type 0 where
  pub start : start_in size place ≡ 0
  pub laid : ring ≡ words (silo_of size place ring) ++ replicate (size - length_in size place) 0
  -- so they are the cells of the record that the rules see, of which "Removing a word now moves up to 63 others" (`silos`, `taken`)
  pub cells : ring ≡ take size (silo_of size place ring).cells

-- every silo of a unit: "Data silos hold 64 words, address silos 50"
pub record UnitFromFirst (cells : List ℕ) (unit : ℕ) : Type 0 where
  pub transmitter : FromFirst 64 (cell (transmitter_cells cells unit) E.RING) (window (transmitter_cells cells unit) E.SILO 64)
  pub receiver : FromFirst 64 (cell (receiver_cells cells unit) E.RING) (window (receiver_cells cells unit) E.SILO 64)
  pub master : FromFirst 50 (cell (master_cells cells unit) M.RING) (window (master_cells cells unit) M.ADDRESSES 50)
