-- What it says of a side that a move call of its unit would answer 4.
-- Assumes nothing.
use Rattle.std.specs.Prelude.{not, List, ◌≡◌, refl, ℕ, leb, ltb, length, Result, Ok, Err, Option}
use Rattle.std.proofs.Common.{sym, subst, ◌∙◌, arith}
use Rattle.cells.specs.Fitted.{transmitter_of, receiver_of}
use Rattle.cells.specs.Layout.{count_in, memory_length}
use Rattle.cells.specs.Ranges.{in_range}
use Rattle.delivery.specs.Laws.Calls.{MovedUntil4}
use Rattle.delivery.specs.Laws.Slices.{State}
use Rattle.laws.specs.Pick.{either}
use Rattle.moves.specs.Laws.Nothing.{transmitter_answers, receiver_answers}
use Rattle.pcl.specs.Numbers.{move_call_number}
use Rattle.pcl.specs.Sides.{move_call}
use Rattle.receiver.specs.Moves as R
use Rattle.transmitter.specs.Moves as T
use Rattle.words.specs.Answers.{move_number}
use Rattle.words.specs.declared.answers.Refusal.{Refusal}
use Rattle.promise.proofs.Laws.Follows.{length_same}
use Rattle.promise.specs.Opening.{Parties, ends_of, message_in}
use Rattle.promise.proofs.Laws.Opens.{Opens}
use Rattle.promise.proofs.Laws.Standing.{Standing}
use Rattle.promise.specs.World.{World, move, number_of}

nothing : (a : Result (Option ℕ) Refusal) → move_number a ≡ 4 → a ≡ Err Refusal.Nothing
nothing (Ok missing) e = absurd (omega arith)
nothing (Err Refusal.Nothing) e = refl
nothing (Err Refusal.NoUnit) e = absurd (omega arith)
nothing (Err Refusal.NoRegister) e = absurd (omega arith)
nothing (Err Refusal.ByteRefused) e = absurd (omega arith)
nothing (Err Refusal.BadSetUp) e = absurd (omega arith)
nothing (Err Refusal.BadMask) e = absurd (omega arith)
nothing (Err Refusal.NoRoom) e = absurd (omega arith)
nothing (Err Refusal.BadState) e = absurd (omega arith)

module _ (cells memory : List ℕ) (unit : ℕ) where
  sender_4 : move_call_number (move_call cells memory unit 0).0 ≡ 4 → (T.moved (transmitter_of cells unit) memory (memory_length cells unit)).answer ≡ Err Refusal.Nothing
  sender_4 =
      let P : Result (Option ℕ) Refusal × List ℕ × List ℕ → Type 0 =
      λ r. move_call_number r.0 ≡ 4 → (T.moved (transmitter_of cells unit) memory (memory_length cells unit)).answer ≡ (Err Refusal.Nothing) in
      either P (not (in_range cells)) (λ e h. absurd (omega arith))
      (λ e. either P (leb (count_in cells) unit) (λ e h. absurd (omega arith))
      (λ e. either P (ltb (length memory) (memory_length cells unit)) (λ e h. absurd (omega arith)) (λ e h. sym (transmitter_answers cells memory unit) ∙ nothing _ h)))

  receiver_4 : move_call_number (move_call cells memory unit 1).0 ≡ 4 → (R.moved (receiver_of cells unit) memory (memory_length cells unit)).0.answer ≡ Err Refusal.Nothing
  receiver_4 =
      let P : Result (Option ℕ) Refusal × List ℕ × List ℕ → Type 0 =
      λ r. move_call_number r.0 ≡ 4 → (R.moved (receiver_of cells unit) memory (memory_length cells unit)).0.answer ≡ (Err Refusal.Nothing) in
      either P (not (in_range cells)) (λ e h. absurd (omega arith))
      (λ e. either P (leb (count_in cells) unit) (λ e h. absurd (omega arith))
      (λ e. either P (ltb (length memory) (memory_length cells unit)) (λ e h. absurd (omega arith)) (λ e h. sym (receiver_answers cells memory unit) ∙ nothing _ h)))

-- "both ends have moved until 4"
pub moved_until_4 : (p : Parties) (start : World) (o : Opens p start) (q : State) (w : World) (s : Standing p start q w)
    → number_of (move p.sender 0) w ≡ 4 → number_of (move p.receiver 1) w ≡ 4 → MovedUntil4 (message_in p start) (ends_of p w)
moved_until_4 p start o q w s sender receiver =
    record {
      transmitter =
          subst (λ (n : ℕ). (T.moved (transmitter_of w.cells p.sender) (w.memory p.sender) n).answer ≡ Err Refusal.Nothing)
          (length_same p start o q w s p.sender) (sender_4 w.cells (w.memory p.sender) p.sender sender);
      receiver =
          subst (λ (n : ℕ). (R.moved (receiver_of w.cells p.receiver) (w.memory p.receiver) n).0.answer ≡ Err Refusal.Nothing)
          (length_same p start o q w s p.receiver) (receiver_4 w.cells (w.memory p.receiver) p.receiver receiver);
    }
