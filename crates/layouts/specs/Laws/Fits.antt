-- A fit does not look at the lent state but for its room, leaves every side in its initial state, and fills the index by the addresses: from
-- two states with the same room it leaves states that are the same.
-- Assumes nothing.
use Rattle.std.specs.Prelude.{true, not, List, ◌≡◌, refl, ℕ, zero, suc, ◌+◌, ◌*◌, ◌%◌, ◌≤◌, ◌<◌, ltb, length, Ok, Err}
use Rattle.std.proofs.Common.{sym, ap, subst, ◌∙◌, arith, le-ltb, ltb-false}
use Rattle.std.proofs.Math.Path.{subst⁻¹}
use Rattle.std.proofs.lemmas.Bool.{not-false}
use Rattle.cells.specs.Index.{Indexed, unit_with}
use Rattle.cells.specs.Layout.{INDEX, count_in, unit_place, transmitter_address, receiver_address}
use Rattle.cells.specs.Search.{first_found}
use Rattle.cells.specs.Laws.SearchLaws.{first_agrees}
use Rattle.codec.specs.Window.{cell}
use Rattle.fitting.specs.Fit.{fit}
use Rattle.fitting.specs.SetUp.{count_of, set_up_good}
use Rattle.fitting.specs.Laws.SetUpLaws.{good_says}
use Rattle.frames.specs.Laws.Fits.{fit_ranged, fit_indexed}
use Rattle.frames.specs.Laws.Fresh.{fit_length, fit_count, fit_holder, fit_started}
use Rattle.frames.specs.Laws.Leaves.{Agree, alike}
use Rattle.frames.specs.Laws.Sides.{sides_of}
use Rattle.laws.specs.Pick.{pick, past}
use Rattle.pcl.specs.Link.{room_for, fit_call}
use Rattle.layouts.specs.Same.{Same, SameNumbers}
use Rattle.layouts.specs.Laws.Units.{AlikeCalls, refused}
use Rattle.words.specs.declared.answers.Refusal.{Refusal}

-- a number beyond 5 bits is looked up by its remainder
five_bits : (cells : List ℕ) (k a : ℕ) → unit_with cells k a ≡ unit_with cells k (a % 32)
five_bits cells k a =
    ap (λ (n : ℕ). pick (ltb (cell cells (INDEX + k * 32 + n)) (count_in cells)) (cell cells (INDEX + k * 32 + n)) 16) (omega arith)

module _ (setup : List ℕ) (good : set_up_good setup ≡ true) (cells other : List ℕ) (alike_room : length other ≡ length cells)
    (room : unit_place (count_of setup) ≤ length cells) where
  too : unit_place (count_of setup) ≤ length other
  too = subst⁻¹ (λ (n : ℕ). unit_place (count_of setup) ≤ n) alike_room room

  same_numbers : (k : ℕ) → k < count_of setup → SameNumbers (fit cells setup) (fit other setup) k
  same_numbers k there =
      let a = fit_started setup cells good room k there in
      let b = fit_started setup other good too k there in
      record { sends_as = b.transmitter_at ∙ sym a.transmitter_at; receives_as = b.receiver_at ∙ sym a.receiver_at; memory = b.memory ∙ sym a.memory }

  -- each index says what a look through the units says, and that finds the same ones
  index_by : (k : ℕ) (address : List ℕ → ℕ → ℕ) → ((x : List ℕ) → Indexed x → (n : ℕ) → n < 32 → unit_with x k n ≡ first_found (address x) n (count_in x) 0)
      → ((unit : ℕ) → unit < count_of setup → address (fit other setup) unit ≡ address (fit cells setup) unit)
      → (a : ℕ) → unit_with (fit other setup) k a ≡ unit_with (fit cells setup) k a
  index_by k address says same a =
      let n = a % 32 in
      five_bits (fit other setup) k a
      ∙ says (fit other setup) (fit_indexed setup other good too) n (omega arith)
      ∙ ap (λ (m : ℕ). first_found (address (fit other setup)) n m 0) (fit_count setup other good too)
      ∙ first_agrees (address (fit other setup)) (address (fit cells setup)) n (count_of setup) 0 (λ unit least below. same unit (omega arith))
      ∙ ap (λ (m : ℕ). first_found (address (fit cells setup)) n m 0) (sym (fit_count setup cells good room))
      ∙ sym (says (fit cells setup) (fit_indexed setup cells good room) n (omega arith))
      ∙ sym (five_bits (fit cells setup) k a)

  same_index : (k a : ℕ) → k < 2 → unit_with (fit other setup) k a ≡ unit_with (fit cells setup) k a
  same_index zero a side = index_by 0 transmitter_address (λ x says. says.transmitter) (λ unit there. (same_numbers unit there).sends_as) a
  same_index (suc zero) a side = index_by 1 receiver_address (λ x says. says.receiver) (λ unit there. (same_numbers unit there).receives_as) a
  same_index (suc (suc k)) a side = absurd (omega arith)

  same_sides : Agree (count_of setup) (sides_of (fit cells setup)) (sides_of (fit other setup))
  same_sides =
      let a = fit_started setup cells good room in
      let b = fit_started setup other good too in
      record {
        holder = fit_holder setup cells good room ∙ sym (fit_holder setup other good too);
        transmitter = λ k there. (a k there).transmitter ∙ sym (b k there).transmitter;
        receiver = λ k there. (a k there).receiver ∙ sym (b k there).receiver;
        master = λ k there. (a k there).master ∙ sym (b k there).master;
      }

  fits_same : Same (fit cells setup) (fit other setup)
  fits_same =
      let count = fit_count setup cells good room in
      record {
        ranged = fit_ranged setup cells good room;
        other_ranged = fit_ranged setup other good too;
        room = fit_length setup other good too ∙ alike_room ∙ sym (fit_length setup cells good room);
        count = fit_count setup other good too ∙ sym count;
        index = same_index;
        own = λ k there. same_numbers k (subst (λ (n : ℕ). k < n) count there);
        sides = subst⁻¹ (λ (n : ℕ). Agree n (sides_of (fit cells setup)) (sides_of (fit other setup))) count same_sides;
      }

module _ {cells other : List ℕ} (h : Same cells other) (setup : List ℕ) where
  pub fit_alike : AlikeCalls (fit_call cells setup) (fit_call other setup)
  fit_alike =
      let asked = room_for (count_of setup) in
      subst⁻¹
      (λ (n : ℕ). AlikeCalls (fit_call cells setup)
      (pick (ltb n asked) (Err Refusal.NoRoom, other) (pick (not (set_up_good setup)) (Err Refusal.BadSetUp, other) (Ok tt, fit other setup))))
      h.room
      (alike AlikeCalls (ltb (length cells) asked) (λ e. refused h (Err Refusal.NoRoom))
      (λ enough. alike AlikeCalls (not (set_up_good setup)) (λ e. refused h (Err Refusal.BadSetUp))
      (λ kept.
      let good : set_up_good setup ≡ true = not-false (set_up_good setup) kept in
      let few : unit_place (count_of setup) ≡ asked = past _ (le-ltb _ _ (good_says setup good).most) refl in
      record { answer = refl; cells = fits_same setup good cells other h.room (omega (arith, few, ltb-false (length cells) asked enough)) })))
