-- A memory move at one side of a fitted unit: that side is as its rule says, and every other side as it was.
-- Assumes nothing.
use Rattle.std.specs.Prelude.{true, not, List, ◌≡◌, refl, ℕ, ◌<◌, Result, Option}
use Rattle.std.proofs.Common.{sym, ap}
use Rattle.cells.specs.Fitted.{transmitter_of, receiver_of}
use Rattle.cells.specs.Ranges.{in_range}
use Rattle.cells.specs.Layout.{count_in, memory_length}
use Rattle.laws.specs.Pick.{here, either}
use Rattle.moves.specs.Moving.{transmitter_moved, receiver_moved}
use Rattle.receiver.specs.Laws.Keeps as RK
use Rattle.receiver.specs.Moves as R
use Rattle.transmitter.specs.Laws.Keeps as TK
use Rattle.transmitter.specs.Moves as T
use Rattle.words.specs.declared.answers.Refusal.{Refusal}
use Rattle.frames.specs.Laws.Leaves.{Leaves, At, stays_at, transmitter_within, receiver_within}
use Rattle.frames.specs.Laws.Sides.{sides_of, with_transmitter, with_receiver}
use Rattle.frames.specs.Laws.Stores.{transmitter_stored, receiver_stored, transmitter_left, receiver_left}

module _ (cells : List ℕ) (ok : in_range cells ≡ true) (memory : List ℕ) (unit : ℕ) (fitted : unit < count_in cells) where
  l : Leaves (At unit) cells cells (sides_of cells)
  l = stays_at (At unit) ok

  pub transmitter_move : Leaves (At unit) cells (transmitter_moved cells memory unit).1
      (with_transmitter (sides_of cells) unit (T.moved (transmitter_of cells unit) memory (memory_length cells unit)).side)
  transmitter_move =
      let t = transmitter_of cells unit in
      let m = T.moved t memory (memory_length cells unit) in
      either (λ (p : Result (Option ℕ) Refusal × List ℕ). Leaves (At unit) cells p.1 (with_transmitter (sides_of cells) unit m.side)) (not (T.may_move t))
      (λ none. transmitter_left l unit fitted m.side (ap (λ (x : T.Moved). x.side) (sym (here _ none refl))))
      (λ some. transmitter_stored l unit fitted refl m.side (TK.within_moved t (transmitter_within l unit fitted) memory (memory_length cells unit)))

  pub receiver_move : Leaves (At unit) cells (receiver_moved cells memory unit).1
      (with_receiver (sides_of cells) unit (R.moved (receiver_of cells unit) memory (memory_length cells unit)).0.side)
  receiver_move =
      let r = receiver_of cells unit in
      let m = R.moved r memory (memory_length cells unit) in
      either (λ (p : Result (Option ℕ) Refusal × List ℕ × List ℕ). Leaves (At unit) cells p.1 (with_receiver (sides_of cells) unit m.0.side)) (not (R.may_move r))
      (λ none. receiver_left l unit fitted m.0.side (ap (λ (x : R.Moved × List ℕ). x.0.side) (sym (here _ none refl))))
      (λ some. receiver_stored l unit fitted refl m.0.side (RK.within_moved r (receiver_within l unit fitted) memory (memory_length cells unit)))
