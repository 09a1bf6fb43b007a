-- A receiver's move hands up an address exactly where it sets NXL: the one it tried, and not the one after it. And a move whose address lies
-- outside the memory does set NXL and hands that address up.
-- Assumes nothing.
use Rattle.std.specs.Prelude.{true, not, ◌&&◌, ◌||◌, List, ◌≡◌, refl, ℕ, ◌/◌, ◌≤◌, Result, Ok, Err, Some}
use Rattle.std.proofs.lemmas.Bool.{false≢true, not-false}
use Rattle.std.proofs.Common.{ap, sym, ◌∙◌}
use Rattle.laws.specs.Pick.{either}
use Rattle.laws.specs.Laws.Both.{right_of}
use Rattle.words.specs.Address.{place_of}
use Rattle.words.specs.Load.{word_moved}
use Rattle.words.specs.Missing.{HandsUp}
use Rattle.words.specs.Laws.AddressLaws.{outside_at}
use Rattle.words.specs.Laws.MissingLaws.{handed_up}
use Rattle.receiver.specs.Moves.{Moved, may_move, moved_to, moved}
use Rattle.receiver.specs.Side.{has_error, data_out_ready}
use Rattle.receiver.specs.declared.side.Receiver.{Receiver}

module _ (r : Receiver) (memory : List ℕ) (fitted : ℕ) where
  abbrev Hands : Moved × List ℕ → Type 0
  Hands m = HandsUp r.faults.nonexistent_location m.0.side.faults.nonexistent_location r.end.load.address.0 fitted m.0.answer

  -- NXL is set, and the load's address comes with it
  abbrev Told : Moved × List ℕ → Type 0
  Told m = (m.0.answer ≡ Ok (Some r.end.load.address.0)) × (m.0.side.faults.nonexistent_location ≡ true)

  -- "Address outside the memory: NXL"
  pub missing_told : may_move r ≡ true → r.end.load.loaded ≡ true → fitted ≤ r.end.load.address.0 / 2 → Told (moved r memory fitted)
  missing_told may loaded outside =
      either Told (not (may_move r)) (λ e. absurd (false≢true (sym (ap not may) ∙ e)))
      (λ e. either Told (not r.end.load.loaded) (λ e. absurd (false≢true (sym (ap not loaded) ∙ e)))
      (λ e. rw (outside_at r.end.load.address.0 fitted outside) (refl, refl)))

  no_error_lem : may_move r ≡ true → not (has_error r) ≡ true
  no_error_lem may = right_of (r.modes.memory_requests && data_out_ready r) (not (has_error r)) may

  to : may_move r ≡ true → (p : Result ℕ ℕ) → place_of r.end.load.address.0 fitted ≡ p → Hands (moved_to r memory p)
  to may (Ok at) e =
      either (λ (s : Receiver). s.faults.nonexistent_location ≡ r.faults.nonexistent_location)
      (word_moved r.end.load r.modes.inhibit_increment).overflow (λ e. refl) (λ e. refl)
  to may (Err tried) e =
      let f = r.faults in
      handed_up (f.byte_count_overflow || f.time_out || f.parity || f.transmission_error || f.memory_overflow) f.nonexistent_location
      r.end.load.address.0 fitted tried (no_error_lem may) e

  pub hands_up : Hands (moved r memory fitted)
  hands_up =
      either Hands (not (may_move r)) (λ e. refl)
      (λ may. either Hands (not r.end.load.loaded) (λ e. refl)
      (λ e. to (not-false (may_move r) may) (place_of r.end.load.address.0 fitted) refl))
