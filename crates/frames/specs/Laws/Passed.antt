-- Any slice, with a master or without: what it leaves of the lent cells.
-- Assumes nothing.
use Rattle.std.specs.Prelude.{Bool, true, List, ◌≡◌, ℕ, ◌-◌, ◌<◌, eqb, Option}
use Rattle.std.proofs.Common.{arith}
use Rattle.std.proofs.lemmas.Bool.{eqb-false}
use Rattle.bus.specs.Slice.{slice_passed}
use Rattle.bus.specs.declared.slice.Given.{Given}
use Rattle.cells.specs.Ranges.{in_range}
use Rattle.cells.specs.Layout.{count_in, holder_in}
use Rattle.cells.specs.Search.{first_secondary}
use Rattle.laws.specs.Pick.{pick}
use Rattle.frames.specs.Laws.Leaves.{Leaves, Anywhere, alike}
use Rattle.frames.specs.Laws.Masterless.{masterless_on, without_leaves}
use Rattle.frames.specs.Laws.Serving.{served_on}
use Rattle.frames.specs.Laws.Sides.{Sides, sides_of}
use Rattle.frames.specs.Laws.Slices.{next_on, next_address, section_passes}
use Rattle.frames.specs.Laws.Kept.{holder_most}

abbrev pub sliced_on : List ℕ → ℕ → Bool → Sides
sliced_on cells mask parity =
    pick (eqb (holder_in cells) 0) (masterless_on (sides_of cells) (first_secondary cells (count_in cells)))
    (served_on cells (next_on cells (holder_in cells - 1)) (next_address cells (holder_in cells - 1)) mask parity).1

pub slice_leaves : (cells : List ℕ) → in_range cells ≡ true → (mask : ℕ) (parity : Bool) → Leaves Anywhere cells (slice_passed cells mask parity).1 (sliced_on cells mask parity)
slice_leaves cells ok mask parity =
    alike (λ (p : Option Given × List ℕ) (s : Sides). Leaves Anywhere cells p.1 s) (eqb (holder_in cells) 0) (λ none. without_leaves cells ok)
    (λ held.
    let fitted : holder_in cells - 1 < count_in cells = omega (arith, holder_most cells ok, eqb-false (holder_in cells) 0 held) in
    (section_passes cells ok mask parity (holder_in cells - 1) fitted).leaves)
