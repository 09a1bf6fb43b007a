-- One turn of a transfer: a move that is done goes on, and any other is the last.
-- Assumes nothing.
use Rattle.std.specs.Prelude.{true, false, ◌≡◌, refl, ℕ, suc, ◌+◌, ◌-◌, ◌<◌, Result, Ok, Err, Option, Some, None}
use Rattle.std.proofs.Common.{true≢false, ap, sym, ◌∙◌, arith}
use Rattle.words.specs.declared.answers.Refusal.{Refusal}
use Rattle.service.specs.Transfers.{moved_then, moves_from}
use Rattle.service.specs.declared.transfers.Transfer.{Transfer}
use Rattle.service.specs.Laws.Turns.{ended_by, is_done}

module _ {A : Type 0} (words : ℕ) (next : A → Result Transfer Refusal × A) where
  then_next : (answer : Result (Option ℕ) Refusal) (after : A) → is_done answer ≡ true → next after ≡ moved_then words next (answer, after)
  then_next (Ok None) after e = refl
  then_next (Ok (Some address)) after e = absurd (true≢false (sym e))
  then_next (Err refusal) after e = absurd (true≢false (sym e))

  then_stop : (answer : Result (Option ℕ) Refusal) (after : A) → is_done answer ≡ false → ◌≡◌ {A = Result Transfer Refusal × A} (ended_by answer words, after) (moved_then words next (answer, after))
  then_stop (Ok None) after e = absurd (true≢false e)
  then_stop (Ok (Some address)) after e = refl
  then_stop (Err refusal) after e = refl

module _ {A : Type 0} (move : A → Result (Option ℕ) Refusal × A) (with : A → ℕ) where
  -- the next of the moves that are left
  a_move_left : (left words : ℕ) (a : A) (k : ℕ) → left ≡ suc k
      → moves_from move with left words a ≡ moved_then words (moves_from move with k (words + with a)) (move a)
  unfolding moves_from
  a_move_left left words a k e = rw e

  module _ (made words : ℕ) (more : made < 65) (a : A) {answer : Result (Option ℕ) Refusal} {after : A} (moved : ◌≡◌ {A = Result (Option ℕ) Refusal × A} (answer, after) (move a)) where
    here : moved_then words (moves_from move with (65 - (made + 1)) (words + with a)) (answer, after) ≡ moves_from move with (65 - made) words a
    here =
        ap (moved_then words (moves_from move with (65 - (made + 1)) (words + with a))) moved
        ∙ sym (a_move_left (65 - made) words a (65 - (made + 1)) (omega arith))

    pub goes_on : is_done answer ≡ true → moves_from move with (65 - (made + 1)) (words + with a) after ≡ moves_from move with (65 - made) words a
    goes_on e = then_next words (moves_from move with (65 - (made + 1)) (words + with a)) answer after e ∙ here

    pub stops : {gave : Result Transfer Refusal} → gave ≡ ended_by answer words → is_done answer ≡ false
        → ◌≡◌ {A = Result Transfer Refusal × A} (gave, after) (moves_from move with (65 - made) words a)
    stops e f =
        ap (λ (t : Result Transfer Refusal). (t, after)) e
        ∙ then_stop words (moves_from move with (65 - (made + 1)) (words + with a)) answer after f
        ∙ here

  pub none_left : (left words : ℕ) (a : A) → left ≡ 0 → ◌≡◌ {A = Result Transfer Refusal × A} (Ok (record { words = words; missing = None }), a) (moves_from move with left words a)
  unfolding moves_from
  none_left left words a e = rw e
