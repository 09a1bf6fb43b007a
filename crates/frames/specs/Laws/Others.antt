-- What a slice with a master leaves as it was: who is master, the sections but the master's, the transmitters but the one addressed, and
-- the receivers but the one that it sends to; and that one too where it is open with another. Then what the two ends become.
-- Assumes nothing.
use Rattle.std.specs.Prelude.{Bool, true, List, ◌≡◌, refl, ℕ, ◌+◌, ◌<◌}
use Rattle.std.proofs.Common.{subst, ◌∙◌}
use Rattle.std.proofs.Math.Path.{subst⁻¹}
use Rattle.answering.specs.Choice.{open_with_another}
use Rattle.bus.specs.Slice.{slice_passed}
use Rattle.cells.specs.Fitted.{transmitter_of, receiver_of, master_of}
use Rattle.cells.specs.Ranges.{in_range}
use Rattle.cells.specs.Layout.{count_in, holder_in}
use Rattle.cells.proofs.Laws.IndexLaws.{index_fitted}
use Rattle.master.specs.Section.{next_of}
use Rattle.sending.specs.Choice.{destination_of}
use Rattle.slices.specs.Laws.Keeps.{another}
use Rattle.slices.specs.Slice.{exchanged}
use Rattle.frames.specs.Laws.Leaves.{Holds}
use Rattle.frames.specs.Laws.Serving.{unit_for, receiver_for, heard_on, served_on, in_each}
use Rattle.frames.specs.Laws.Sides.{Sides, replaced, replaced_here, replaced_other, replaced_same}
use Rattle.frames.specs.Laws.Slices.{next_on, next_address, slice_passes, slice_heard}

module _ (cells : List ℕ) (ok : in_range cells ≡ true) (mask : ℕ) (parity : Bool) (m : ℕ) (held : holder_in cells ≡ m + 1) where
  holds : Holds (slice_passed cells mask parity).1 (count_in cells) (served_on cells (next_on cells m) (next_address cells m) mask parity).1
  holds = (slice_passes cells ok mask parity m held).leaves.holds

  pub slice_holder : holder_in (slice_passed cells mask parity).1 ≡ holder_in cells
  slice_holder =
      let P : Sides → Type 0 = λ s. s.holder ≡ holder_in cells in
      holds.holder ∙ in_each cells (next_on cells m) (next_address cells m) mask parity P refl (λ unit. refl) (λ unit. refl)

  module _ (k : ℕ) (there : k < count_in cells) where
    pub slice_master : master_of (slice_passed cells mask parity).1 k ≡ replaced (master_of cells) m (next_of (master_of cells m)).side k
    slice_master =
        let P : Sides → Type 0 = λ s. s.master k ≡ replaced (master_of cells) m (next_of (master_of cells m)).side k in
        holds.master k there ∙ in_each cells (next_on cells m) (next_address cells m) mask parity P refl (λ unit. refl) (λ unit. refl)

    pub slice_other_transmitter : (k ≡ unit_for cells (next_address cells m) → ⊥) → transmitter_of (slice_passed cells mask parity).1 k ≡ transmitter_of cells k
    slice_other_transmitter other =
        let P : Sides → Type 0 = λ s. s.transmitter k ≡ transmitter_of cells k in
        let unit = unit_for cells (next_address cells m) in
        holds.transmitter k there
        ∙ in_each cells (next_on cells m) (next_address cells m) mask parity P refl (λ near. replaced_other (transmitter_of cells) unit _ k other)
        (λ near. replaced_other (transmitter_of cells) unit _ k other)

    pub slice_other_receiver : (unit_for cells (next_address cells m) < 16 → k ≡ receiver_for cells (transmitter_of cells (unit_for cells (next_address cells m))) → ⊥)
        → receiver_of (slice_passed cells mask parity).1 k ≡ receiver_of cells k
    slice_other_receiver other =
        let P : Sides → Type 0 = λ s. s.receiver k ≡ receiver_of cells k in
        let heard = receiver_for cells (transmitter_of cells (unit_for cells (next_address cells m))) in
        holds.receiver k there
        ∙ in_each cells (next_on cells m) (next_address cells m) mask parity P refl (λ near. refl)
        (λ near. replaced_other (receiver_of cells) heard _ k (other near))

    -- "open with another: B 00, no change"
    pub slice_another : open_with_another (receiver_of cells k) (next_address cells m) ≡ true → receiver_of (slice_passed cells mask parity).1 k ≡ receiver_of cells k
    slice_another apart =
        let P : Sides → Type 0 = λ s. s.receiver k ≡ receiver_of cells k in
        let unit = unit_for cells (next_address cells m) in
        let heard = receiver_for cells (transmitter_of cells unit) in
        holds.receiver k there
        ∙ in_each cells (next_on cells m) (next_address cells m) mask parity P refl (λ near. refl)
        (λ near. replaced_same (receiver_of cells) heard _ k
        (λ e. another (transmitter_of cells unit) (receiver_of cells heard) (next_address cells m) mask parity
        (subst (λ (n : ℕ). open_with_another (receiver_of cells n) (next_address cells m) ≡ true) e apart)))

  -- ---- the two ends of a slice that is heard

  module _ (unit : ℕ) (found : unit_for cells (next_address cells m) ≡ unit) (there : unit < 16) (other : ℕ) (heard : receiver_for cells (transmitter_of cells unit) ≡ other) (near : other < 16) where
    pub unit_fitted : unit < count_in cells
    unit_fitted = subst (λ (n : ℕ). n < count_in cells) found (index_fitted cells 0 (next_address cells m) (subst⁻¹ (λ (n : ℕ). n < 16) found there))

    pub other_fitted : other < count_in cells
    other_fitted =
        subst (λ (n : ℕ). n < count_in cells) heard (index_fitted cells 1 (destination_of (transmitter_of cells unit)) (subst⁻¹ (λ (n : ℕ). n < 16) heard near))

    ends : Holds (slice_passed cells mask parity).1 (count_in cells) (heard_on (next_on cells m) unit other (next_address cells m) mask parity).1
    ends = (slice_heard cells ok mask parity m held unit found there other heard near).leaves.holds

    pub slice_transmitter : transmitter_of (slice_passed cells mask parity).1 unit
        ≡ (exchanged (transmitter_of cells unit) (receiver_of cells other) (next_address cells m) mask parity).transmitter
    slice_transmitter = ends.transmitter unit unit_fitted ∙ replaced_here (transmitter_of cells) unit _

    pub slice_receiver : receiver_of (slice_passed cells mask parity).1 other
        ≡ (exchanged (transmitter_of cells unit) (receiver_of cells other) (next_address cells m) mask parity).receiver
    slice_receiver = ends.receiver other other_fitted ∙ replaced_here (receiver_of cells) other _
