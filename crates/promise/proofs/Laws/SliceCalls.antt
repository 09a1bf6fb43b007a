-- A slice call with a master: its ring gives its first address and turns, the call is answered 0 with that address, and its kind goes by
-- it.
-- Assumes nothing.
use Rattle.std.specs.Prelude.{Bool, false, not, true, List, ◌≡◌, refl, ℕ, ◌+◌, ◌<◌, eqb, ltb, get_or, Option, Some, Result, Ok}
use Rattle.std.proofs.Common.{ap, sym, ◌∙◌, arith}
use Rattle.frames.specs.Laws.Leaves.{master_within, stays}
use Rattle.bus.specs.Slice.{slice_passed}
use Rattle.bus.specs.declared.slice.Given.{Given}
use Rattle.cells.specs.Fitted.{master_of}
use Rattle.cells.specs.Layout.{holder_in}
use Rattle.frames.specs.Laws.Others.{slice_master}
use Rattle.frames.specs.Laws.Serving.{served_on}
use Rattle.frames.specs.Laws.Sides.{replaced_here}
use Rattle.frames.specs.Laws.Slices.{master_fitted, next_address, next_on, slice_passes}
use Rattle.cells.specs.Ranges.{in_range}
use Rattle.laws.specs.Pick.{past, pick}
use Rattle.master.specs.Laws.CycleLaws as Cycle
use Rattle.master.specs.Cycle.{cycle_of}
use Rattle.master.specs.Laws.Laws.{next_lt}
use Rattle.master.specs.Laws.Rotation.{rotated}
use Rattle.pcl.specs.Link.{slice_call}
use Rattle.pcl.specs.Numbers.{address_of, given_value}
use Rattle.promise.specs.Kinds.{own, other, slice_kind}
use Rattle.words.specs.declared.answers.Refusal.{Refusal}

module _ (cells : List ℕ) (ok : in_range cells ≡ true) (mask : ℕ) (parity : Bool) (m : ℕ) (held : holder_in cells ≡ m + 1) where
  pub ring_turns : cycle_of (master_of (slice_passed cells mask parity).1 m) ≡ rotated (cycle_of (master_of cells m))
  ring_turns =
      let there = master_fitted cells ok mask parity m held in
      ap cycle_of (slice_master cells ok mask parity m held m there ∙ replaced_here (master_of cells) m _)
      ∙ Cycle.step (master_of cells m) (master_within (stays ok) m there)

  pub ring_first : next_address cells m ≡ get_or (cycle_of (master_of cells m)) 0 0
  ring_first =
      let there = master_fitted cells ok mask parity m held in
      Cycle.first (master_of cells m) (master_within (stays ok) m there)

-- ---- the call: with a parity mask of 0 or 1 it is answered 0, with the ring's first address

abbrev pub slot_in : List ℕ → ℕ → Bool → ℕ → Option Given
slot_in cells mask parity m =
    Some (record { address = next_address cells m; codes = (served_on cells (next_on cells m) (next_address cells m) mask parity).0 })

pub slice_call_lem : (cells : List ℕ) → in_range cells ≡ true → (mask parity m : ℕ) → holder_in cells ≡ m + 1 → ltb 1 parity ≡ false
    → slice_call cells mask parity ≡ (Ok (slot_in cells mask (eqb parity 1) m), (slice_passed cells mask (eqb parity 1)).1)
slice_call_lem cells ok mask parity m held few =
    sym (past _ (ap not ok) (past _ few refl))
    ∙ ap (λ (a : Option Given). (Ok a, (slice_passed cells mask (eqb parity 1)).1))
    (slice_passes cells ok mask (eqb parity 1) m held).answer

-- its kind goes by that address alone
pub slice_kind_lem : (cells : List ℕ) → in_range cells ≡ true → (mask parity m : ℕ) → holder_in cells ≡ m + 1 → ltb 1 parity ≡ false → (from : ℕ)
    → slice_kind from (slice_call cells mask parity).0 ≡ pick (eqb (next_address cells m) from) own other
slice_kind_lem cells ok mask parity m held few from =
    let fits : next_address cells m < 32 = next_lt (master_of cells m) (master_within (stays ok) m (master_fitted cells ok mask (eqb parity 1) m held)) in
    let g : Given = record { address = next_address cells m; codes = (served_on cells (next_on cells m) (next_address cells m) mask (eqb parity 1)).0 } in
    let shown : address_of (given_value g) ≡ next_address cells m = omega (arith, fits) in
    ap (λ (r : Result (Option Given) Refusal × List ℕ). slice_kind from r.0) (slice_call_lem cells ok mask parity m held few)
    ∙ ap (λ (a : ℕ). pick (eqb a from) own other) shown
