-- What a call at a unit cannot change, in the cells: of a write all that its offset spares, and of a reset and a period every
-- side of another unit.
-- Assumes nothing.
use Rattle.std.specs.Prelude.{true, List, ◌⊎◌, ◌≡◌, ℕ, ◌^◌, ◌<◌}
use Rattle.std.proofs.Common.{◌∙◌}
use Rattle.accesses.specs.Writing.{unit_written, unit_byte_written, unit_reset}
use Rattle.cells.specs.Fitted.{transmitter_of, receiver_of, master_of}
use Rattle.cells.specs.Ranges.{in_range}
use Rattle.cells.specs.Layout.{count_in, holder_in}
use Rattle.moves.specs.Periods.{unit_period}
use Rattle.frames.specs.Laws.Leaves.{Leaves}
use Rattle.frames.specs.Laws.Resets.{reset_leaves, period_leaves}
use Rattle.frames.specs.Laws.Sides.{Sides, sides_of, replaced_other}
use Rattle.frames.specs.Laws.Spared.{SparesTransmitter, SparesReceiver, SparesMaster, HeldElsewhere, Spared, write_spares, byte_spares}
use Rattle.frames.specs.Laws.Writes.{write_leaves, byte_leaves}

-- ---- a write

pub record WriteKeeps (cells : List ℕ) (unit offset value : ℕ) (after : List ℕ) : Type 0 where
  pub transmitter : (k : ℕ) → k < count_in cells → (k ≡ unit → SparesTransmitter offset) → transmitter_of after k ≡ transmitter_of cells k
  pub receiver : (k : ℕ) → k < count_in cells → (k ≡ unit → SparesReceiver offset) → receiver_of after k ≡ receiver_of cells k
  pub master : (k : ℕ) → k < count_in cells → (k ≡ unit → SparesMaster offset value) → master_of after k ≡ master_of cells k
  pub holder : SparesMaster offset value ⊎ HeldElsewhere (holder_in cells) unit → holder_in after ≡ holder_in cells

spared_keeps : {touched : ℕ → Type 0} {cells after : List ℕ} {s : Sides} {unit offset value : ℕ} → Leaves touched cells after s → Spared (sides_of cells) unit offset value s
    → WriteKeeps cells unit offset value after
spared_keeps l spared =
    record {
      transmitter = λ k there spares. l.holds.transmitter k there ∙ spared.transmitter k spares;
      receiver = λ k there spares. l.holds.receiver k there ∙ spared.receiver k spares;
      master = λ k there spares. l.holds.master k there ∙ spared.master k spares;
      holder = λ spares. l.holds.holder ∙ spared.holder spares;
    }

-- ---- a reset and a period

pub record OthersKept (cells : List ℕ) (unit : ℕ) (after : List ℕ) : Type 0 where
  pub transmitter : (k : ℕ) → k < count_in cells → (k ≡ unit → ⊥) → transmitter_of after k ≡ transmitter_of cells k
  pub receiver : (k : ℕ) → k < count_in cells → (k ≡ unit → ⊥) → receiver_of after k ≡ receiver_of cells k
  pub master : (k : ℕ) → k < count_in cells → (k ≡ unit → ⊥) → master_of after k ≡ master_of cells k

module _ (cells : List ℕ) (ok : in_range cells ≡ true) (unit : ℕ) (fitted : unit < count_in cells) where
  pub write_keeps : (offset word : ℕ) → word < 2 ^ 16 → WriteKeeps cells unit offset word (unit_written cells unit offset word).1
  write_keeps offset word fits = spared_keeps (write_leaves cells ok unit fitted offset word fits) (write_spares (sides_of cells) unit offset word)

  pub byte_keeps : (offset byte : ℕ) → byte < 2 ^ 8 → WriteKeeps cells unit offset byte (unit_byte_written cells unit offset byte).1
  byte_keeps offset byte fits = spared_keeps (byte_leaves cells ok unit fitted offset byte fits) (byte_spares (sides_of cells) unit offset byte)

  pub reset_others : OthersKept cells unit (unit_reset cells unit)
  reset_others =
      let h = (reset_leaves cells ok unit fitted).holds in
      record {
        transmitter = λ k there other. h.transmitter k there ∙ replaced_other (transmitter_of cells) unit _ k other;
        receiver = λ k there other. h.receiver k there ∙ replaced_other (receiver_of cells) unit _ k other;
        master = λ k there other. h.master k there ∙ replaced_other (master_of cells) unit _ k other;
      }

  pub period_others : OthersKept cells unit (unit_period cells unit)
  period_others =
      let h = (period_leaves cells ok unit fitted).holds in
      record {
        transmitter = λ k there other. h.transmitter k there ∙ replaced_other (transmitter_of cells) unit _ k other;
        receiver = λ k there other. h.receiver k there ∙ replaced_other (receiver_of cells) unit _ k other;
        master = λ k there other. h.master k there;
      }
