-- What being in range says, that it goes by the header and the room alone, and that the unfitted state is in range.
-- Assumes nothing.
use Rattle.std.specs.Prelude.{true, ◌&&◌, List, ◌≡◌, ℕ, zero, suc, ◌≤◌, ◌<◌, length, replicate}
use Rattle.std.proofs.Common.{arith}
use borrow.Author.Tests.{leb-true, le-leb}
use Rattle.std.proofs.Math.Dec.{leb}
use Rattle.std.proofs.lemmas.List.{length-replicate}
use Rattle.laws.specs.Laws.Both.{both, left_of, right_of}
use Rattle.cells.specs.Fitted.{Fitted}
use Rattle.cells.specs.Layout.{count_in, holder_in, unit_place}
use Rattle.cells.specs.Ranges.{in_range}

pub record InRange (cells : List ℕ) : Type 0 where
  pub header : 66 ≤ length cells
  pub most : count_in cells ≤ 16
  pub room : unit_place (count_in cells) ≤ length cells
  pub holder : holder_in cells ≤ count_in cells

module _ (cells : List ℕ) where
  pub in_range_says : in_range cells ≡ true → InRange cells
  unfolding in_range
  in_range_says ok =
      let a = leb 66 (length cells) in
      let b = leb (count_in cells) 16 in
      let c = leb (unit_place (count_in cells)) (length cells) in
      let d = leb (holder_in cells) (count_in cells) in
      let abc = left_of (a && b && c) d ok in
      let ab = left_of (a && b) c abc in
      record {
        header = leb-true _ _ (left_of a b ab);
        most = leb-true _ _ (right_of a b ab);
        room = leb-true _ _ (right_of (a && b) c abc);
        holder = leb-true _ _ (right_of (a && b && c) d ok);
      }

  pub in_range_is : InRange cells → in_range cells ≡ true
  unfolding in_range
  in_range_is h = both (both (both (le-leb _ _ h.header) (le-leb _ _ h.most)) (le-leb _ _ h.room)) (le-leb _ _ h.holder)

  -- each unit that the header counts is fitted
  pub fitted : in_range cells ≡ true → (u : ℕ) → u < count_in cells → Fitted cells u
  fitted ok u h =
      let most = (in_range_says ok).most in
      let room = (in_range_says ok).room in
      record { number = omega arith; room = omega arith }

-- it goes by the header and the room
pub in_range_agrees : (cells after : List ℕ) → length after ≡ length cells → count_in after ≡ count_in cells → holder_in after ≡ holder_in cells
    → in_range after ≡ in_range cells
unfolding in_range
in_range_agrees cells after room count holder = rw (room, count, holder)

-- ---- the unfitted state: all zero, of any length that has room for the header

pub unfitted : (n : ℕ) → 66 ≤ n → in_range (replicate n 0) ≡ true
unfitted zero h = absurd (omega arith)
unfitted (suc zero) h = absurd (omega arith)
unfitted (suc (suc n)) h =
    let l : length {A = ℕ} (replicate n 0) ≡ n = length-replicate n 0 in
    in_range_is (replicate (suc (suc n)) 0) (record { header = omega arith; most = omega arith; room = omega arith; holder = omega arith })
