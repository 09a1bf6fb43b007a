-- The header's cell of who is master replaced: it is read as it was stored, and all else as it was before.
-- Assumes nothing.
use Rattle.std.specs.Prelude.{true, List, [], ◌∷◌, ◌≡◌, refl, ℕ, suc, eqb, ◌+◌, ◌-◌, ◌≤◌, ◌<◌, length, set, take, drop, Option, Some, None, unwrap_or}
use Rattle.std.proofs.Common.{append_assoc, sym, ap, ◌∙◌, add-one, arith, lit≤}
use Rattle.std.proofs.lemmas.List.{set_split}
use Rattle.std.proofs.lemmas.Option.{none-some}
use borrow.Author.Tests.{eqb-true, eqb-false}
use Rattle.laws.specs.Pick.{by}
use Rattle.codec.specs.Masters.{dec_master}
use Rattle.codec.specs.Receivers.{dec_receiver}
use Rattle.codec.specs.Transmitters.{dec_transmitter}
use Rattle.codec.specs.Window.{cell, window, splice}
use Rattle.codec.specs.Laws.WindowLaws.{length_splice, window_after, cell_before, cell_inside, cell_past}
use Rattle.cells.specs.Fitted.{Fitted, transmitter_of, receiver_of, master_of}
use Rattle.cells.specs.Layout.{count_in, holder_in, held_by, holder_of, entry_place, unit_place}
use Rattle.cells.specs.Ranges.{in_range}
use Rattle.cells.specs.Laws.FrameLaws.{SameIndex, SameOwn}
use Rattle.cells.specs.Laws.RangeLaws.{in_range_says, in_range_is, fitted}

-- one cell set is a splice of one
pub set_is_splice : (cells : List ℕ) (i x : ℕ) → i < length cells → set cells i x ≡ splice cells i (x ∷ [])
set_is_splice cells i x h =
    set_split cells i x h ∙ rw add-one (sym (append_assoc (take i cells) (x ∷ []) (drop (suc i) cells)))

module _ (cells : List ℕ) (header : 66 ≤ length cells) (holder : ℕ) where
  fits : 1 + 1 ≤ length cells
  fits = omega arith

  pub set_holder : set cells 1 holder ≡ splice cells 1 (holder ∷ [])
  set_holder = set_is_splice cells 1 holder fits

  pub holder_put : holder_in (splice cells 1 (holder ∷ [])) ≡ holder
  holder_put = cell_inside cells 1 (holder ∷ []) fits 0 (omega arith)

  pub length_after_holder : length (splice cells 1 (holder ∷ [])) ≡ length cells
  length_after_holder = length_splice cells 1 (holder ∷ []) fits

  pub count_after_holder : count_in (splice cells 1 (holder ∷ [])) ≡ count_in cells
  count_after_holder = cell_before cells 1 (holder ∷ []) fits 0 (omega arith)

  pub cell_after_holder : (i : ℕ) → 2 ≤ i → cell (splice cells 1 (holder ∷ [])) i ≡ cell cells i
  cell_after_holder i h = cell_past cells 1 (holder ∷ []) fits i h

  pub index_after_holder : SameIndex cells (splice cells 1 (holder ∷ []))
  index_after_holder k a h = cell_after_holder (entry_place k a) (omega arith)

  pub own_after_holder : SameOwn cells (splice cells 1 (holder ∷ []))
  own_after_holder k j h = cell_after_holder (unit_place k + j) (omega arith)

  -- nobody, or a unit that the header counts, leaves the state in range
  pub holder_in_range : in_range cells ≡ true → holder ≤ count_in cells → in_range (splice cells 1 (holder ∷ [])) ≡ true
  holder_in_range ok most =
      let r = in_range_says cells ok in
      let l = length_after_holder in
      let c = count_after_holder in
      in_range_is (splice cells 1 (holder ∷ []))
      (record { header = rw l r.header; most = rw c r.most; room = rw (c, l) r.room; holder = rw (c, holder_put) most })

  module _ (k : ℕ) (there : Fitted cells k) where
    window_after_holder : (p n : ℕ) → p ≤ 202 → window (splice cells 1 (holder ∷ [])) (unit_place k + p) n ≡ window cells (unit_place k + p) n
    window_after_holder p n h = window_after cells 1 (holder ∷ []) (unit_place k + p) (omega arith) (omega arith) n

    pub transmitter_after_holder : transmitter_of (splice cells 1 (holder ∷ [])) k ≡ transmitter_of cells k
    transmitter_after_holder = ap dec_transmitter (window_after_holder 4 73 (lit≤ tt))

    pub receiver_after_holder : receiver_of (splice cells 1 (holder ∷ [])) k ≡ receiver_of cells k
    receiver_after_holder = ap dec_receiver (window_after_holder 77 73 (lit≤ tt))

    pub master_after_holder : master_of (splice cells 1 (holder ∷ [])) k ≡ master_of cells k
    master_after_holder = ap dec_master (window_after_holder 150 52 (lit≤ tt))

-- the master that a holder's cell names is written by the same number
pub holder_back : (holder : ℕ) → holder_of (held_by holder) ≡ holder
holder_back holder =
    by (eqb holder 0)
    (λ none. rw none (omega (arith, eqb-true holder 0 none)))
    (λ some. rw some (omega (arith, eqb-false holder 0 some)))

-- the master that it names is one that the header counts; without one the number is 0
pub held_is : (holder u : ℕ) → Some u ≡ held_by holder → (u ≡ holder - 1) × (1 ≤ holder)
held_is holder u is =
    by (eqb holder 0)
    (λ none. absurd (none-some u (sym (is ∙ rw none refl))))
    (λ some.
    let same : Some u ≡ Some (holder - 1) = is ∙ rw some refl in
    (ap (λ (o : Option ℕ). unwrap_or o u) same, omega (arith, eqb-false holder 0 some)))

pub held_none : (holder : ℕ) → None ≡ held_by holder → eqb holder 0 ≡ true
held_none holder is = by (eqb holder 0) (λ none. none) (λ some. absurd (none-some (holder - 1) (is ∙ rw some refl)))

pub held_fitted : (cells : List ℕ) (u : ℕ) → in_range cells ≡ true → Some u ≡ held_by (holder_in cells) → Fitted cells u
held_fitted cells u ok is =
    let most = (in_range_says cells ok).holder in
    fitted cells ok u (omega (arith, (held_is (holder_in cells) u is).0, (held_is (holder_in cells) u is).1))
