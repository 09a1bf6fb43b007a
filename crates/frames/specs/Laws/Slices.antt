-- A slice with a master: its section gives the next address, and the slice is of the transmitter and the receiver found. Every other
-- section, transmitter and receiver is as it was, and the same unit is master.
-- Assumes nothing.
use Rattle.std.specs.Prelude.{Bool, true, List, ◌≡◌, refl, ℕ, ◌+◌, ◌-◌, ◌<◌, Option, Some}
use Rattle.std.proofs.Common.{sym, ap, subst, ◌∙◌, arith, lt-ltb, ne_eqb}
use Rattle.std.proofs.Math.Path.{subst⁻¹}
use Rattle.bus.specs.Slice as B
use Rattle.bus.specs.declared.slice.Given.{Given}
use Rattle.cells.specs.Fitted.{transmitter_of, master_of}
use Rattle.cells.specs.Ranges.{in_range}
use Rattle.cells.specs.Layout.{count_in, holder_in}
use Rattle.laws.specs.Pick.{past, here}
use Rattle.master.specs.Laws.Laws.{within_next, next_lt}
use Rattle.master.specs.Section.{next_of}
use Rattle.words.specs.Codes.{no_codes}
use Rattle.words.specs.declared.codes.Codes.{Codes}
use Rattle.frames.specs.Laws.Leaves.{Leaves, Anywhere, stays, master_within}
use Rattle.frames.specs.Laws.Serving.{served, unit_for, receiver_for, heard_on, unheard_on, slice_by, slice_on, served_by, served_on}
use Rattle.frames.specs.Laws.Sides.{Sides, sides_of, with_master}
use Rattle.frames.specs.Laws.Stores.{next_stored}
use Rattle.frames.specs.Laws.Kept.{holder_most}

-- the sides once the master's section has given its address
abbrev pub next_on : List ℕ → ℕ → Sides
next_on cells m = with_master (sides_of cells) m (next_of (master_of cells m)).side

abbrev pub next_address : List ℕ → ℕ → ℕ
next_address cells m = (next_of (master_of cells m)).address

-- a slice answers with that address and those codes, and leaves those sides
pub record Passes (cells : List ℕ) (p : Option Given × List ℕ) (address : ℕ) (q : Codes × Sides) : Type 0 where
  pub answer : p.0 ≡ Some (record { address = address; codes = q.0 })
  pub leaves : Leaves Anywhere cells p.1 q.1

abbrev pub SlicePasses : List ℕ → ℕ → Bool → ℕ → Codes × Sides → Type 0
SlicePasses cells mask parity m q = Passes cells (B.slice_passed cells mask parity) (next_address cells m) q

-- the slice of a fitted unit's section
module _ (cells : List ℕ) (ok : in_range cells ≡ true) (mask : ℕ) (parity : Bool) (m : ℕ) (fitted : m < count_in cells) where
  pub section_passes : Passes cells (B.slot_of (B.master_slice cells m mask parity)) (next_address cells m)
      (served_on cells (next_on cells m) (next_address cells m) mask parity)
  section_passes =
      let section = master_of cells m in
      let h = master_within (stays ok) m fitted in
      let l = next_stored (stays ok) m fitted tt (next_of section).side (within_next section h) in
      let s = served l (next_address cells m) (next_lt section h) mask parity in
      record { answer = ap Some s.answer; leaves = s.leaves }

-- the master's
module _ (cells : List ℕ) (ok : in_range cells ≡ true) (mask : ℕ) (parity : Bool) (m : ℕ) (held : holder_in cells ≡ m + 1) where
  pub master_fitted : m < count_in cells
  master_fitted = omega (arith, holder_most cells ok)

  passed_is : B.slice_passed cells mask parity ≡ B.slot_of (B.master_slice cells m mask parity)
  passed_is =
      let e : holder_in cells - 1 ≡ m = omega arith in
      sym
      (past _ (ne_eqb (holder_in cells) 0 (λ (q : holder_in cells ≡ 0). omega arith)) (ap (λ (n : ℕ). B.slot_of (B.master_slice cells n mask parity)) (sym e)))

  pub slice_passes : SlicePasses cells mask parity m (served_on cells (next_on cells m) (next_address cells m) mask parity)
  slice_passes =
      subst⁻¹ (λ (p : Option Given × List ℕ). Passes cells p (next_address cells m) (served_on cells (next_on cells m) (next_address cells m) mask parity)) passed_is
      (section_passes cells ok mask parity m master_fitted)

  -- no transmitter has the address: "idle, A and B 00, nothing else"
  pub slice_idle : unit_for cells (next_address cells m) ≡ 16
      → SlicePasses cells mask parity m (no_codes, next_on cells m)
  slice_idle none =
      subst (λ (n : ℕ). SlicePasses cells mask parity m (served_by cells (next_on cells m) n (next_address cells m) mask parity)) none
      slice_passes

  module _ (unit : ℕ) (found : unit_for cells (next_address cells m) ≡ unit) (there : unit < 16) where
    of_unit : SlicePasses cells mask parity m (slice_on cells (next_on cells m) unit (next_address cells m) mask parity)
    of_unit =
        subst (SlicePasses cells mask parity m)
        (ap (λ (n : ℕ). served_by cells (next_on cells m) n (next_address cells m) mask parity) found ∙ sym (here _ (lt-ltb unit 16 there) refl)) slice_passes

    -- no receiver has its destination
    pub slice_alone : receiver_for cells (transmitter_of cells unit) ≡ 16
        → SlicePasses cells mask parity m (unheard_on (next_on cells m) unit)
    slice_alone none =
        subst (λ (n : ℕ). SlicePasses cells mask parity m (slice_by (next_on cells m) unit n (next_address cells m) mask parity)) none of_unit

    pub slice_heard : (other : ℕ) → receiver_for cells (transmitter_of cells unit) ≡ other → other < 16
        → SlicePasses cells mask parity m (heard_on (next_on cells m) unit other (next_address cells m) mask parity)
    slice_heard other e near =
        subst (SlicePasses cells mask parity m)
        (ap (λ (n : ℕ). slice_by (next_on cells m) unit n (next_address cells m) mask parity) e ∙ sym (here _ (lt-ltb other 16 near) refl)) of_unit
