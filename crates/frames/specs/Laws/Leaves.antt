-- What a step leaves of the lent cells: they are in range, they hold these sides, the rest is kept, and
-- every cell of a unit that the step is not at is as it was.
-- Assumes nothing.
use Rattle.std.specs.Prelude.{Bool, true, false, List, ◌≡◌, refl, ℕ, ◌+◌, ◌<◌}
use Rattle.std.proofs.Common.{subst, ◌∙◌}
use Rattle.std.proofs.Math.Path.{subst⁻¹}
use Rattle.cells.specs.Fitted.{Fitted, transmitter_of, receiver_of, master_of}
use Rattle.cells.specs.Layout.{count_in, holder_in, unit_place}
use Rattle.cells.specs.Ranges.{in_range}
use Rattle.cells.specs.Laws.FittedLaws as Fitted
use Rattle.cells.specs.Laws.RangeLaws.{fitted}
use Rattle.codec.specs.Window.{cell}
use Rattle.laws.specs.Pick.{pick}
use Rattle.master.specs.Side as M
use Rattle.receiver.specs.Side as R
use Rattle.transmitter.specs.Side as T
use Rattle.frames.specs.Laws.Kept.{Kept, kept_all}
use Rattle.frames.specs.Laws.Sides.{Sides, sides_of}

-- the cells hold these sides, those of as many units
pub record Holds (cells : List ℕ) (count : ℕ) (s : Sides) : Type 0 where
  pub holder : holder_in cells ≡ s.holder
  pub transmitter : (k : ℕ) → k < count → transmitter_of cells k ≡ s.transmitter k
  pub receiver : (k : ℕ) → k < count → receiver_of cells k ≡ s.receiver k
  pub master : (k : ℕ) → k < count → master_of cells k ≡ s.master k

-- every cell of a fitted unit that is not one of these is as it was
abbrev pub OthersStay : (ℕ → Type 0) → List ℕ → List ℕ → Type 0
OthersStay touched cells after =
    (k : ℕ) → k < count_in cells → (touched k → ⊥) → (j : ℕ) → j < 202 → cell after (unit_place k + j) ≡ cell cells (unit_place k + j)

-- what a step at these units leaves
pub record Leaves (touched : ℕ → Type 0) (cells after : List ℕ) (s : Sides) : Type 0 where
  pub ranged : in_range after ≡ true
  pub kept : Kept cells after
  pub holds : Holds after (count_in cells) s
  pub others : OthersStay touched cells after

-- a step at one unit, and one that may be at any
abbrev pub At : ℕ → ℕ → Type 0
At unit k = k ≡ unit

abbrev pub Anywhere : ℕ → Type 0
Anywhere k = Unit {0}

-- nothing done
pub stays_at : (touched : ℕ → Type 0) {cells : List ℕ} → in_range cells ≡ true → Leaves touched cells cells (sides_of cells)
stays_at touched {cells} ok =
    record {
      ranged = ok;
      kept = kept_all cells;
      holds = record { holder = refl; transmitter = λ k h. refl; receiver = λ k h. refl; master = λ k h. refl };
      others = λ k there apart j h. refl;
    }

pub stays : {cells : List ℕ} → in_range cells ≡ true → Leaves Anywhere cells cells (sides_of cells)
stays ok = stays_at Anywhere ok

-- a unit fitted before is so after, and the sides are within their values as whatever the cells hold is
module _ {touched : ℕ → Type 0} {cells after : List ℕ} {s : Sides} (l : Leaves touched cells after s) (k : ℕ) (there : k < count_in cells) where
  pub still_fitted : Fitted after k
  still_fitted = fitted after l.ranged k (subst⁻¹ (λ (n : ℕ). k < n) l.kept.count there)

  pub transmitter_within : T.Within (s.transmitter k)
  transmitter_within = subst T.Within (l.holds.transmitter k there) (Fitted.transmitter_within after k still_fitted)

  pub receiver_within : R.Within (s.receiver k)
  receiver_within = subst R.Within (l.holds.receiver k there) (Fitted.receiver_within after k still_fitted)

  pub master_within : M.Within (s.master k)
  master_within = subst M.Within (l.holds.master k there) (Fitted.master_within after k still_fitted)

-- the same sides, said otherwise
pub record Agree (count : ℕ) (s other : Sides) : Type 0 where
  pub holder : s.holder ≡ other.holder
  pub transmitter : (k : ℕ) → k < count → s.transmitter k ≡ other.transmitter k
  pub receiver : (k : ℕ) → k < count → s.receiver k ≡ other.receiver k
  pub master : (k : ℕ) → k < count → s.master k ≡ other.master k

pub agrees : {touched : ℕ → Type 0} {cells after : List ℕ} {s other : Sides} → Leaves touched cells after s → Agree (count_in cells) s other
    → Leaves touched cells after other
agrees l same =
    record {
      ranged = l.ranged;
      kept = l.kept;
      holds =
          record {
            holder = l.holds.holder ∙ same.holder;
            transmitter = λ k there. l.holds.transmitter k there ∙ same.transmitter k there;
            receiver = λ k there. l.holds.receiver k there ∙ same.receiver k there;
            master = λ k there. l.holds.master k there ∙ same.master k there;
          };
      others = l.others;
    }

-- two things picked by one test agree as the two cases do
pub alike : {A B : Type 0} (P : A → B → Type 0) (t : Bool) {a c : A} {b d : B} → (t ≡ true → P a b) → (t ≡ false → P c d) → P (pick t a c) (pick t b d)
alike P true f g = f refl
alike P false f g = g refl
