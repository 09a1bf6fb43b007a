-- A transmitter's move hands up an address exactly where it sets NXL: the one it tried, and not the one after it. And a move whose address lies
-- outside the memory does set NXL and hands that address up.
-- Assumes nothing.
use Rattle.std.specs.Prelude.{true, not, ◌&&◌, ◌||◌, List, ◌≡◌, refl, ℕ, ◌/◌, ◌≤◌, Result, Ok, Err, Some}
use Rattle.std.proofs.lemmas.Bool.{false≢true, not-false}
use Rattle.std.proofs.Common.{ap, sym, ◌∙◌}
use Rattle.laws.specs.Pick.{either}
use Rattle.laws.specs.Laws.Both.{left_of, right_of}
use Rattle.silos.specs.Silo.{has_room}
use Rattle.words.specs.Address.{place_of}
use Rattle.words.specs.Load.{word_moved}
use Rattle.words.specs.Missing.{HandsUp}
use Rattle.words.specs.Laws.AddressLaws.{outside_at}
use Rattle.words.specs.Laws.MissingLaws.{handed_up}
use Rattle.transmitter.specs.Moves.{Moved, may_move, moved_from, moved}
use Rattle.transmitter.specs.Side.{has_error}
use Rattle.transmitter.specs.declared.side.Transmitter.{Transmitter}

module _ (t : Transmitter) (memory : List ℕ) (fitted : ℕ) where
  abbrev Hands : Moved → Type 0
  Hands m = HandsUp t.faults.nonexistent_location m.side.faults.nonexistent_location t.end.load.address.0 fitted m.answer

  -- NXL is set, and the load's address comes with it
  abbrev Told : Moved → Type 0
  Told m = (m.answer ≡ Ok (Some t.end.load.address.0)) × (m.side.faults.nonexistent_location ≡ true)

  -- "Address outside the memory: NXL"
  pub missing_told : may_move t ≡ true → fitted ≤ t.end.load.address.0 / 2 → Told (moved t memory fitted)
  missing_told may outside =
      either Told (not (may_move t)) (λ e. absurd (false≢true (sym (ap not may) ∙ e)))
      (λ e. rw (outside_at t.end.load.address.0 fitted outside) (refl, refl))

  no_error_lem : may_move t ≡ true → not (has_error t) ≡ true
  no_error_lem may =
      let a = t.modes.memory_requests in
      let b = t.end.load.loaded in
      let c = not (has_error t) in
      let d = has_room 64 t.end.silo in
      let e = not t.modes.read_silo in
      let f = not t.channel.ending in
      right_of (a && b) c (left_of (a && b && c) d (left_of (a && b && c && d) e (left_of (a && b && c && d && e) f may)))

  missed : may_move t ≡ true → (tried : ℕ) → place_of t.end.load.address.0 fitted ≡ Err tried
      → HandsUp t.faults.nonexistent_location true t.end.load.address.0 fitted (Ok (Some tried))
  missed may tried e =
      let f = t.faults in
      handed_up (f.overrun || f.time_out || f.master_down || f.transmission_error || f.memory_overflow) f.nonexistent_location
      t.end.load.address.0 fitted tried (no_error_lem may) e

  from : may_move t ≡ true → (p : Result ℕ ℕ) → place_of t.end.load.address.0 fitted ≡ p → Hands (moved_from t memory p)
  from may (Ok at) e =
      either (λ (s : Transmitter). s.faults.nonexistent_location ≡ t.faults.nonexistent_location)
      (word_moved t.end.load t.modes.inhibit_increment).overflow (λ e. refl) (λ e. refl)
  from may (Err tried) e = missed may tried e

  pub hands_up : Hands (moved t memory fitted)
  hands_up = either Hands (not (may_move t)) (λ e. refl) (λ e. from (not-false (may_move t) e) (place_of t.end.load.address.0 fitted) refl)
