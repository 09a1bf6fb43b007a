-- Receiving leaves every cell of the link as it was, whatever it is lent and whatever it answers, also where it is refused: of the three
-- registers that it reads, RSR, RCR and RDBA, none removes anything by a read, and the call for the serial changes nothing.
-- Assumes nothing.
use Rattle.std.specs.Prelude.{List, ◌≡◌, refl, ℕ, Result, Ok, Err}
use Rattle.std.proofs.Common.{ap, sym, ◌∙◌}
use Rattle.board.specs.Outcomes.{ReceiveOutcome}
use Rattle.board.specs.Receive.{receive_call, received_as}
use Rattle.board.specs.declared.answers.ReceiveError.{ReceiveError}
use Rattle.board.specs.declared.answers.Received.{Received}
use Rattle.board.specs.declared.receiving.Standing.{Standing}
use Rattle.words.specs.declared.answers.Refusal.{Refusal}
use Rattle.board.proofs.Laws.ReceivedLaws.{Outcome, by_standing, standing_leaves}

received_leaves : (kind : ℕ) (memory : List ℕ) (first : ℕ) (room : List ℕ) (p : Result Standing Refusal × List ℕ) → (received_as kind memory first room p).1 ≡ p.1
received_leaves kind memory first room (Err refusal, left) = refl
received_leaves kind memory first room (Ok s, left) = refl

-- ---- the theorem: of the definition, and so of every outcome that the call's contract allows

module _ (kind : ℕ) (cells memory : List ℕ) (unit first : ℕ) (room : List ℕ) where
  pub receiving_leaves_cells : (receive_call kind cells memory unit first room).1 ≡ cells
  receiving_leaves_cells =
      by_standing kind cells memory unit first room (λ (o : Outcome). o.1 ≡ cells) refl
      (λ p e. received_leaves kind memory first room p ∙ ap (λ (q : Result Standing Refusal × List ℕ). q.1) (sym e) ∙ standing_leaves cells unit)

  pub outcome_leaves_cells : (answer : Result Received ReceiveError) (after left : List ℕ) → ReceiveOutcome kind cells memory unit first room (answer, after, left)
      → after ≡ cells
  outcome_leaves_cells answer after left outcome = ap (λ (o : Outcome). o.1) outcome ∙ receiving_leaves_cells
