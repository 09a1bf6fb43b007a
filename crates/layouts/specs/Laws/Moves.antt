-- The calls at one side of a unit on two states that are the same but for the layout, and the same memory.
-- Assumes nothing.
use Rattle.std.specs.Prelude.{not, List, ◌≡◌, refl, ℕ, ◌<◌, eqb, ltb, length, Result, Option, Ok, Err, Bool}
use Rattle.std.proofs.Common.{sym, ap, subst, ◌∙◌}
use Rattle.cells.specs.Fitted.{transmitter_of, receiver_of}
use Rattle.cells.specs.Layout.{count_in, memory_length}
use Rattle.frames.specs.Laws.Leaves.{alike}
use Rattle.frames.specs.Laws.Moves.{transmitter_move, receiver_move}
use Rattle.laws.specs.Pick.{pick, here, either}
use Rattle.moves.specs.Moving.{transmitter_moved, receiver_moved}
use Rattle.pcl.specs.Sides.{at_side, sent_by, received_by, fitted_move, move_call, level_call, serial_call}
use Rattle.receiver.specs.Moves as R
use Rattle.receiver.specs.Requests as RL
use Rattle.receiver.specs.declared.side.Receiver.{Receiver}
use Rattle.transmitter.specs.Moves as T
use Rattle.transmitter.specs.Requests as TL
use Rattle.transmitter.specs.declared.side.Transmitter.{Transmitter}
use Rattle.words.specs.declared.answers.Refusal.{Refusal}
use Rattle.layouts.specs.Same.{Same}
use Rattle.layouts.specs.Laws.Agreeing.{transmitter_agrees, receiver_agrees}
use Rattle.layouts.specs.Laws.Sames.{left_same}
use Rattle.layouts.specs.Laws.Units.{admitted_alike, there_too}

-- the same answer, states that are the same but for the layout, and the same memory
pub record AlikeMoves (p q : Result (Option ℕ) Refusal × List ℕ × List ℕ) : Type 0 where
  pub answer : p.0 ≡ q.0
  pub cells : Same p.1 q.1
  pub memory : q.2 ≡ p.2

-- ---- the answers on the sides, as `moves` has them on the cells

module _ (cells memory : List ℕ) (unit : ℕ) where
  sent_answer : (transmitter_moved cells memory unit).0 ≡ (T.moved (transmitter_of cells unit) memory (memory_length cells unit)).answer
  sent_answer =
      let t = transmitter_of cells unit in
      either (λ (p : Result (Option ℕ) Refusal × List ℕ). p.0 ≡ (T.moved t memory (memory_length cells unit)).answer) (not (T.may_move t))
      (λ none. ap (λ (x : T.Moved). x.answer) (here _ none refl)) (λ some. refl)

  received_answer : (receiver_moved cells memory unit).0 ≡ (R.moved (receiver_of cells unit) memory (memory_length cells unit)).0.answer
  received_answer =
      let r = receiver_of cells unit in
      either (λ (p : Result (Option ℕ) Refusal × List ℕ × List ℕ). p.0 ≡ (R.moved r memory (memory_length cells unit)).0.answer) (not (R.may_move r))
      (λ none. ap (λ (x : R.Moved × List ℕ). x.0.answer) (here _ none refl)) (λ some. refl)

  received_memory : (receiver_moved cells memory unit).2 ≡ (R.moved (receiver_of cells unit) memory (memory_length cells unit)).1
  received_memory =
      let r = receiver_of cells unit in
      either (λ (p : Result (Option ℕ) Refusal × List ℕ × List ℕ). p.2 ≡ (R.moved r memory (memory_length cells unit)).1) (not (R.may_move r))
      (λ none. ap (λ (x : R.Moved × List ℕ). x.1) (here _ none refl)) (λ some. refl)

-- ---- the calls

-- one of the two sides, or none
at_side_lem : {A B : Type 0} (P : A → B → Type 0) (side : ℕ) {t r n : A} {t' r' n' : B} → P t t' → P r r' → P n n' → P (at_side side t r n) (at_side side t' r' n')
at_side_lem P side t r n = alike P (eqb side 0) (λ e. t) (λ e. alike P (eqb side 1) (λ e. r) (λ e. n))

module _ {cells other : List ℕ} (h : Same cells other) (unit : ℕ) where
  module _ (memory : List ℕ) where
    unmoved : (a : Result (Option ℕ) Refusal) → AlikeMoves (a, cells, memory) (a, other, memory)
    unmoved a = record { answer = refl; cells = h; memory = refl }

    module _ (there : unit < count_in cells) where
      lent : memory_length cells unit ≡ memory_length other unit
      lent = sym (h.own unit there).memory

      sent_same : T.moved (transmitter_of cells unit) memory (memory_length cells unit) ≡ T.moved (transmitter_of other unit) memory (memory_length other unit)
      sent_same =
          ap (λ (x : Transmitter). T.moved x memory (memory_length cells unit)) (h.sides.transmitter unit there)
          ∙ ap (T.moved (transmitter_of other unit) memory) lent

      received_same : R.moved (receiver_of cells unit) memory (memory_length cells unit) ≡ R.moved (receiver_of other unit) memory (memory_length other unit)
      received_same =
          ap (λ (x : Receiver). R.moved x memory (memory_length cells unit)) (h.sides.receiver unit there)
          ∙ ap (R.moved (receiver_of other unit) memory) lent

      sent_alike : AlikeMoves (sent_by memory (transmitter_moved cells memory unit)) (sent_by memory (transmitter_moved other memory unit))
      sent_alike =
          record {
            answer = (sent_answer cells memory unit ∙ ap (λ (x : T.Moved). x.answer) sent_same ∙ sym (sent_answer other memory unit));
            cells =
                left_same h (transmitter_move cells h.ranged memory unit there) (transmitter_move other h.other_ranged memory unit (there_too h unit there))
                (transmitter_agrees (count_in cells) h.sides unit (ap (λ (x : T.Moved). x.side) sent_same));
            memory = refl;
          }

      received_alike : AlikeMoves (received_by (receiver_moved cells memory unit)) (received_by (receiver_moved other memory unit))
      received_alike =
          record {
            answer = (received_answer cells memory unit ∙ ap (λ (x : R.Moved × List ℕ). x.0.answer) received_same ∙ sym (received_answer other memory unit));
            cells =
                left_same h (receiver_move cells h.ranged memory unit there) (receiver_move other h.other_ranged memory unit (there_too h unit there))
                (receiver_agrees (count_in cells) h.sides unit (ap (λ (x : R.Moved × List ℕ). x.0.side) received_same));
            memory = received_memory other memory unit ∙ ap (λ (x : R.Moved × List ℕ). x.1) (sym received_same) ∙ sym (received_memory cells memory unit);
          }

    -- "9 lent room too small" goes by the memory's length and the fitted one
    pub move_alike : (side : ℕ) → AlikeMoves (move_call cells memory unit side) (move_call other memory unit side)
    move_alike side =
        admitted_alike h AlikeMoves unit _ _ _ _ _ _ (unmoved (Err Refusal.NoUnit))
        (λ there.
        subst
        (λ (n : ℕ). AlikeMoves (fitted_move cells memory unit side)
        (pick (ltb (length memory) n) (Err Refusal.BadState, other, memory)
        (at_side side (sent_by memory (transmitter_moved other memory unit)) (received_by (receiver_moved other memory unit)) (Err Refusal.NoUnit, other, memory)))) (lent there)
        (alike AlikeMoves (ltb (length memory) (memory_length cells unit)) (λ e. unmoved (Err Refusal.BadState))
        (λ e. at_side_lem AlikeMoves side (sent_alike there) (received_alike there) (unmoved (Err Refusal.NoUnit)))))

  pub level_alike : (side : ℕ) → level_call cells unit side ≡ level_call other unit side
  level_alike side =
      let P : Result Bool Refusal → Result Bool Refusal → Type 0 = λ a b. a ≡ b in
      admitted_alike h P unit _ _ _ _ _ _ refl
      (λ there.
      at_side_lem P side (ap (λ (x : Transmitter). Ok (TL.level_of x)) (h.sides.transmitter unit there))
      (ap (λ (x : Receiver). Ok (RL.level_of x)) (h.sides.receiver unit there)) refl)

  pub serial_alike : (side : ℕ) → serial_call cells unit side ≡ serial_call other unit side
  serial_alike side =
      let P : Result ℕ Refusal → Result ℕ Refusal → Type 0 = λ a b. a ≡ b in
      admitted_alike h P unit _ _ _ _ _ _ refl
      (λ there.
      at_side_lem P side (ap (λ (x : Transmitter). Ok x.end.serial) (h.sides.transmitter unit there))
      (ap (λ (x : Receiver). Ok x.end.serial) (h.sides.receiver unit there)) refl)
