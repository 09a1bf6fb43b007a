-- The index: what it answers is none or a fitted unit; where it says what the look-through says, that unit has the address; a fit makes it
-- so, and whatever keeps the index, the count and the units' own cells keeps it so.
-- Assumes nothing.
use Rattle.std.specs.Prelude.{true, List, ◌≡◌, refl, ℕ, zero, suc, ◌+◌, ◌*◌, ◌/◌, ◌%◌, ◌≤◌, ◌<◌, ltb, length, get_or}
use Rattle.std.proofs.Common.{sym, ap, ap₂, ◌∙◌, zero-add, arith, ltb-true, ltb-false}
use Rattle.std.proofs.Math.Path.{subst⁻¹}
use Rattle.codec.specs.Window.{cell}
use Rattle.codec.specs.Laws.WindowLaws.{length_splice, cell_before, cell_inside, cell_past}
use Rattle.laws.specs.Pick.{by, either}
use Rattle.cells.specs.Fitted.{Fitted}
use Rattle.cells.specs.Index.{unit_with, transmitter_with, receiver_with, Indexed, row, looked_through, put_index}
use Rattle.cells.specs.Layout.{count_in, holder_in, entry_in, entry_place, unit_place, address_in, transmitter_address, receiver_address}
use Rattle.cells.specs.Ranges.{in_range}
use Rattle.cells.specs.Search.{first_found, first_transmitter, first_receiver}
use Rattle.cells.specs.Laws.FrameLaws.{SameIndex, SameOwn, transmitter_found_kept, receiver_found_kept}
use Rattle.cells.specs.Laws.RangeLaws.{in_range_says, in_range_agrees, fitted as counted_fitted}
use Rattle.cells.specs.Laws.SearchLaws.{at_most, fitted, found}

-- ---- what it answers

module _ (cells : List ℕ) (k a : ℕ) where
  pub index_fitted : unit_with cells k a < 16 → unit_with cells k a < count_in cells
  index_fitted =
      let e = entry_in cells k a in
      either (λ (n : ℕ). n < 16 → n < count_in cells) (ltb e (count_in cells)) (λ some h. ltb-true e (count_in cells) some) (λ none h. absurd (omega arith))

  -- in a state in range, one that is found is fitted
  pub with_fitted : in_range cells ≡ true → unit_with cells k a < 16 → Fitted cells (unit_with cells k a)
  with_fitted ok h = counted_fitted cells ok _ (index_fitted h)

-- ---- one that is found has the address, where the index says what the look-through says

module _ (cells : List ℕ) (i : Indexed cells) (a : ℕ) (number : a < 32) where
  pub sends_as : transmitter_with cells a < 16 → transmitter_address cells (transmitter_with cells a) ≡ a
  sends_as =
      subst⁻¹ (λ (n : ℕ). n < 16 → transmitter_address cells n ≡ a) (i.transmitter a number) (found (transmitter_address cells) a (count_in cells) 0)

  pub receives_as : receiver_with cells a < 16 → receiver_address cells (receiver_with cells a) ≡ a
  receives_as =
      subst⁻¹ (λ (n : ℕ). n < 16 → receiver_address cells n ≡ a) (i.receiver a number) (found (receiver_address cells) a (count_in cells) 0)

-- ---- it goes by the index and the count

module _ (cells after : List ℕ) (index : SameIndex cells after) (count : count_in after ≡ count_in cells) where
  pub with_kept : (k a : ℕ) → k < 2 → unit_with after k a ≡ unit_with cells k a
  with_kept k a h = rw (index k a h, count)

  pub indexed_kept : SameOwn cells after → Indexed cells → Indexed after
  indexed_kept own i =
      record {
        transmitter = λ a h.
            with_kept 0 a (omega arith)
            ∙ i.transmitter a h
            ∙ sym (transmitter_found_kept cells after own (count_in after) a ∙ ap (λ (n : ℕ). first_transmitter cells n a) count);
        receiver = λ a h.
            with_kept 1 a (omega arith)
            ∙ i.receiver a h
            ∙ sym (receiver_found_kept cells after own (count_in after) a ∙ ap (λ (n : ℕ). first_receiver cells n a) count);
      }

-- ---- a row

pub length_row : (f : ℕ → ℕ) (n a : ℕ) → length (row f n a) ≡ n
unfolding row
length_row f zero a = refl
length_row f (suc n) a = ap suc (length_row f n (suc a))

pub row_at : (f : ℕ → ℕ) (n a i : ℕ) → i < n → get_or (row f n a) i 0 ≡ f (a + i)
unfolding row
row_at f zero a i h = absurd (omega arith)
row_at f (suc n) a zero h = ap f (omega arith)
row_at f (suc n) a (suc i) h = row_at f n (suc a) i (omega arith) ∙ ap f (omega arith)

-- ---- filled

module _ (cells : List ℕ) (ok : in_range cells ≡ true) where
  long : length (row (looked_through cells) 64 0) ≡ 64
  long = length_row (looked_through cells) 64 0

  pub index_fits : 2 + length (row (looked_through cells) 64 0) ≤ length cells
  index_fits = omega (arith, (in_range_says cells ok).header, long)

  pub length_filled : length (put_index cells) ≡ length cells
  length_filled = length_splice cells 2 (row (looked_through cells) 64 0) index_fits

  pub count_filled : count_in (put_index cells) ≡ count_in cells
  count_filled = cell_before cells 2 (row (looked_through cells) 64 0) index_fits 0 (omega arith)

  pub holder_filled : holder_in (put_index cells) ≡ holder_in cells
  holder_filled = cell_before cells 2 (row (looked_through cells) 64 0) index_fits 1 (omega arith)

  pub own_filled : SameOwn cells (put_index cells)
  own_filled k j h = cell_past cells 2 (row (looked_through cells) 64 0) index_fits (unit_place k + j) (omega (arith, long))

  pub in_range_filled : in_range (put_index cells) ≡ true
  in_range_filled = in_range_agrees cells (put_index cells) length_filled count_filled holder_filled ∙ ok

  entry_filled : (k a : ℕ) → k < 2 → a < 32 → entry_in (put_index cells) k a ≡ first_found (address_in cells k) a (count_in cells) 0
  entry_filled k a h number =
      let i = k * 32 + a % 32 in
      let place : entry_place k a ≡ 2 + i = omega arith in
      let kind : i / 32 ≡ k = omega arith in
      let own : i % 32 ≡ a = omega arith in
      ap (cell (put_index cells)) place
      ∙ cell_inside cells 2 (row (looked_through cells) 64 0) index_fits i (omega (arith, long))
      ∙ row_at (looked_through cells) 64 0 i (omega arith)
      ∙ ap (looked_through cells) (zero-add i)
      ∙ ap₂ (λ (j n : ℕ). first_found (address_in cells j) n (count_in cells) 0) kind own

  -- the look-through's answer is 16 or a unit of the header's count, so that it is read as it was written
  answers : (k a : ℕ) → k < 2 → a < 32 → unit_with (put_index cells) k a ≡ first_found (address_in cells k) a (count_in cells) 0
  answers k a h number =
      let x = first_found (address_in cells k) a (count_in cells) 0 in
      let most = (in_range_says cells ok).most in
      let few = at_most (address_in cells k) a (count_in cells) 0 (omega arith) in
      rw (entry_filled k a h number, count_filled)
      (either (λ (n : ℕ). n ≡ x) (ltb x (count_in cells)) (λ some. refl)
      (λ none.
      by (ltb x 16)
      (λ near. absurd (omega (arith, ltb-false x (count_in cells) none, fitted (address_in cells k) a (count_in cells) 0 (ltb-true x 16 near))))
      (λ far. omega (arith, few, ltb-false x 16 far))))

  pub filled : Indexed (put_index cells)
  filled =
      record {
        transmitter = λ a h.
            answers 0 a (omega arith) h
            ∙ sym (transmitter_found_kept cells (put_index cells) own_filled (count_in (put_index cells)) a ∙ ap (λ (n : ℕ). first_transmitter cells n a) count_filled);
        receiver = λ a h.
            answers 1 a (omega arith) h
            ∙ sym (receiver_found_kept cells (put_index cells) own_filled (count_in (put_index cells)) a ∙ ap (λ (n : ℕ). first_receiver cells n a) count_filled);
      }
