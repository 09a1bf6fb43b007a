-- Whatever the cells hold, a fitted unit's sides and its own numbers are within the values that they may take.
-- Assumes nothing.
use Rattle.std.specs.Prelude.{List, ◌≡◌, ℕ, ◌≤◌, length}
use Rattle.std.proofs.Common.{arith}
use Rattle.codec.proofs.Laws.MasterLaws.{master_loaded}
use Rattle.codec.proofs.Laws.ReceiverLaws.{receiver_loaded}
use Rattle.codec.proofs.Laws.TransmitterLaws.{transmitter_loaded}
use Rattle.master.specs.Side as M
use Rattle.receiver.specs.Side as R
use Rattle.transmitter.specs.Side as T
use Rattle.cells.specs.Fitted.{Fitted, transmitter_of, receiver_of, master_of}
use Rattle.cells.specs.Layout.{transmitter_place, receiver_place, master_place, address_in, memory_length}

-- a unit is fitted by its number and the room alone
pub still_fitted : {cells after : List ℕ} {u : ℕ} → length after ≡ length cells → Fitted cells u → Fitted after u
still_fitted e f = record { number = f.number; room = rw e f.room }

module _ (cells : List ℕ) (u : ℕ) where
  -- an address is 1 to 31, and a memory has 1 to 131,072 words
  pub address_most : (k : ℕ) → address_in cells k u ≤ 31
  address_most k = omega arith

  pub memory_length_most : memory_length cells u ≤ 131072
  memory_length_most = omega arith

  module _ (f : Fitted cells u) where
    pub transmitter_within : T.Within (transmitter_of cells u)
    transmitter_within = transmitter_loaded cells (transmitter_place u) (omega arith)

    pub receiver_within : R.Within (receiver_of cells u)
    receiver_within = receiver_loaded cells (receiver_place u) (omega arith)

    pub master_within : M.Within (master_of cells u)
    master_within = master_loaded cells (master_place u) (omega arith)
