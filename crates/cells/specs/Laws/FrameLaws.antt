-- A part of a fitted unit's block replaced: what stays as it was.
-- Assumes nothing.
use Rattle.std.specs.Prelude.{List, ◌⊎◌, ◌≡◌, ℕ, ◌+◌, ◌≤◌, ◌<◌, min, eqb, ltb, length}
use Rattle.std.proofs.Common.{inl, inr, ⊎_elim, ap, arith, eqb-true, ltb-true, ltb-false}
use Rattle.std.proofs.lemmas.Bool.{eqb-false}
use Rattle.laws.specs.Pick.{by}
use Rattle.codec.specs.Window.{cell, window, splice}
use Rattle.codec.specs.Laws.WindowLaws.{length_splice, window_before, window_after, cell_before, cell_past}
use Rattle.cells.specs.Fitted.{Fitted}
use Rattle.cells.specs.Layout.{count_in, holder_in, entry_place, entry_in, unit_place, own_cell, transmitter_address, receiver_address, memory_length}
use Rattle.cells.specs.Ranges.{in_range}
use Rattle.cells.specs.Search.{first_transmitter, first_receiver}
use Rattle.cells.specs.Laws.RangeLaws.{in_range_agrees}
use Rattle.cells.specs.Laws.SearchLaws.{first_agrees}

-- every unit's own cells are the same after as before
abbrev pub SameOwn : List ℕ → List ℕ → Type 0
SameOwn cells after = (k j : ℕ) → j < 4 → own_cell after j k ≡ own_cell cells j k

-- the index is the same after as before
abbrev pub SameIndex : List ℕ → List ℕ → Type 0
SameIndex cells after = (k a : ℕ) → k < 2 → entry_in after k a ≡ entry_in cells k a

-- ---- a part at o of the block of a fitted unit u replaced

module _ (cells : List ℕ) (u : ℕ) (f : Fitted cells u) (o : ℕ) (w : List ℕ) (part : o + length w ≤ 202) where
  fits : unit_place u + o + length w ≤ length cells
  fits = omega arith

  pub count_kept : count_in (splice cells (unit_place u + o) w) ≡ count_in cells
  count_kept = cell_before cells (unit_place u + o) w fits 0 (omega arith)

  pub holder_kept : holder_in (splice cells (unit_place u + o) w) ≡ holder_in cells
  holder_kept = cell_before cells (unit_place u + o) w fits 1 (omega arith)

  pub index_kept : SameIndex cells (splice cells (unit_place u + o) w)
  index_kept k a h = cell_before cells (unit_place u + o) w fits (entry_place k a) (omega arith)

  pub length_kept : length (splice cells (unit_place u + o) w) ≡ length cells
  length_kept = length_splice cells (unit_place u + o) w fits

  -- so the state is in range where it was
  pub in_range_kept : in_range (splice cells (unit_place u + o) w) ≡ in_range cells
  in_range_kept = in_range_agrees cells (splice cells (unit_place u + o) w) length_kept count_kept holder_kept

  -- n cells at p of a unit k are apart from the part replaced: those of another unit are, and those of u where they lie before or past it
  apart : (k p n : ℕ) → p + n ≤ 202 → (k ≡ u → (p + n ≤ o) ⊎ (o + length w ≤ p))
      → (unit_place k + p + n ≤ unit_place u + o) ⊎ (unit_place u + o + length w ≤ unit_place k + p)
  apart k p n h disjoint =
      by (eqb k u) (λ same. let e = eqb-true k u same in ⊎_elim (λ l. inl (omega arith)) (λ r. inr (omega arith)) (disjoint e))
      (λ other. let d = eqb-false k u other in by (ltb k u) (λ less. inl (omega (arith, ltb-true k u less))) (λ more. inr (omega (arith, ltb-false k u more))))

  -- such a cell is kept
  pub cell_kept : (k j : ℕ) → j < 202 → (k ≡ u → (j < o) ⊎ (o + length w ≤ j)) → cell (splice cells (unit_place u + o) w) (unit_place k + j) ≡ cell cells (unit_place k + j)
  cell_kept k j h disjoint =
      ⊎_elim (λ l. cell_before cells (unit_place u + o) w fits (unit_place k + j) (omega arith)) (λ r. cell_past cells (unit_place u + o) w fits (unit_place k + j) r)
      (apart k j 1 (omega arith) (λ e. ⊎_elim (λ l. inl (omega arith)) inr (disjoint e)))

  -- such a window of a fitted unit is kept
  pub window_kept : (k p n : ℕ) → Fitted cells k → p + n ≤ 202 → (k ≡ u → (p + n ≤ o) ⊎ (o + length w ≤ p))
      → window (splice cells (unit_place u + o) w) (unit_place k + p) n ≡ window cells (unit_place k + p) n
  window_kept k p n there h disjoint =
      ⊎_elim (λ l. window_before cells (unit_place u + o) w (unit_place k + p) n l (omega arith))
      (λ past. window_after cells (unit_place u + o) w (unit_place k + p) past (omega arith) n)
      (apart k p n h disjoint)

  -- where the part is no cell of the unit's own, every unit's own cells are kept
  pub own_kept : 4 ≤ o → SameOwn cells (splice cells (unit_place u + o) w)
  own_kept side k j h = cell_kept k j (omega arith) (λ e. inl (omega arith))

-- ---- what goes by the units' own cells

module _ (cells after : List ℕ) (own : SameOwn cells after) where
  pub transmitter_address_kept : (k : ℕ) → transmitter_address after k ≡ transmitter_address cells k
  transmitter_address_kept k = ap (λ (n : ℕ). min 30 n + 1) (own k 0 (omega arith))

  pub receiver_address_kept : (k : ℕ) → receiver_address after k ≡ receiver_address cells k
  receiver_address_kept k = ap (λ (n : ℕ). min 30 n + 1) (own k 1 (omega arith))

  pub memory_length_kept : (k : ℕ) → memory_length after k ≡ memory_length cells k
  memory_length_kept k = rw (own k 2 (omega arith), own k 3 (omega arith))

  -- so a unit is found where it was
  pub transmitter_found_kept : (n a : ℕ) → first_transmitter after n a ≡ first_transmitter cells n a
  transmitter_found_kept n a = first_agrees (transmitter_address after) (transmitter_address cells) a n 0 (λ k from below. transmitter_address_kept k)

  pub receiver_found_kept : (n a : ℕ) → first_receiver after n a ≡ first_receiver cells n a
  receiver_found_kept n a = first_agrees (receiver_address after) (receiver_address cells) a n 0 (λ k from below. receiver_address_kept k)
