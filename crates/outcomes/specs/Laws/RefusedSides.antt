-- An access that changes its side is not refused: none of the numbers whose row says "unchanged" is its answer.
-- Assumes nothing.
use Rattle.std.specs.Prelude.{true, false, not, ◌&&◌, ◌≡◌, refl, ℕ, eqb, Result, Ok, Err, Option, Some, None}
use Rattle.std.proofs.Common.{true≢false, sym, ap, subst, ◌∙◌, eqb-true}
use Rattle.std.proofs.lemmas.Bool.{false≢true}
use Rattle.laws.specs.Pick.{either}
use Rattle.laws.specs.Laws.Both.{left_of, right_of}
use Rattle.moves.specs.Laws.Nothing.{has_moved}
use Rattle.receiver.specs.declared.side.Receiver.{Receiver}
use Rattle.receiver_registers.specs.Reading as RR
use Rattle.receiver_registers.specs.Writing as RW
use Rattle.silos.specs.Silo.{is_empty}
use Rattle.transmitter.specs.Side.{data_in_ready}
use Rattle.transmitter.specs.declared.side.Transmitter.{Transmitter}
use Rattle.transmitter_registers.specs.Reading as TR
use Rattle.transmitter_registers.specs.Writing as TW
use Rattle.words.specs.Answers.{read_number, read_word, write_number, move_number}
use Rattle.words.specs.Halves.{even_below, with_half}
use Rattle.words.specs.declared.answers.Refusal.{Refusal}
use Rattle.words.specs.declared.answers.Write.{Write}
use Rattle.outcomes.specs.Unchanged.{leaves_all}

-- 4 is the answer of a move that has nothing to move, and changes nothing (`moves`, Nothing)
pub nothing : (m : Result (Option ℕ) Refusal) → leaves_all (move_number m) ≡ true → has_moved m ≡ false
nothing (Ok None) h = absurd (false≢true h)
nothing (Ok (Some address)) h = absurd (false≢true h)
nothing (Err refusal) h = refl

abbrev ReadDone : Result ℕ Refusal → Type 0
ReadDone r = leaves_all (read_number r) ≡ false

abbrev WriteDone : Result Write Refusal → Type 0
WriteDone w = leaves_all (write_number w) ≡ false

-- ---- the transmitter

module _ (t : Transmitter) (offset : ℕ) where
  pub transmitter_read_done : TR.removes t offset ≡ true → ReadDone (TR.read_of t offset).answer
  transmitter_read_done some =
      let P : TR.Reading → Type 0 = λ r. ReadDone r.answer in
      let held = right_of (eqb offset 4 && t.modes.read_silo) (not (is_empty t.end.silo)) some in
      let named = left_of (eqb offset 4) t.modes.read_silo (left_of (eqb offset 4 && t.modes.read_silo) (not (is_empty t.end.silo)) some) in
      either P (eqb offset 4)
      (λ e. either P (is_empty t.end.silo) (λ none. absurd (true≢false (sym held ∙ ap not none))) (λ e. either P t.modes.read_silo (λ e. refl) (λ e. refl)))
      (λ e. absurd (true≢false (sym named ∙ e)))

  pub transmitter_write_done : (word : ℕ) → TW.changes offset ≡ true → WriteDone (TW.written t offset word).answer
  transmitter_write_done word some =
      let P : TW.Written → Type 0 = λ w. WriteDone w.answer in
      either P (eqb offset 0) (λ e. refl)
      (λ a. either P (eqb offset 2) (λ e. refl)
      (λ b. either P (eqb offset 4) (λ e. either P (data_in_ready t) (λ e. refl) (λ e. refl))
      (λ c. either P (eqb offset 6) (λ e. refl) (λ d. either P (eqb offset 8) (λ e. refl) (λ e. absurd (false≢true (rw (a, b, c, d, e) at some)))))))

pub transmitter_byte_done : (t : Transmitter) (offset byte : ℕ) → TW.changes_byte offset ≡ true → WriteDone (TW.byte_written t offset byte).answer
transmitter_byte_done t offset byte some =
    let apart = left_of (not (eqb (even_below offset) 4)) (TW.changes (even_below offset)) some in
    either (λ (w : TW.Written). WriteDone w.answer) (eqb (even_below offset) 4) (λ e. absurd (true≢false (sym apart ∙ ap not e)))
    (λ e. transmitter_write_done t (even_below offset) (with_half (read_word (TR.show_of t (even_below offset))) offset byte)
    (right_of (not (eqb (even_below offset) 4)) (TW.changes (even_below offset)) some))

-- ---- the receiver

module _ (r : Receiver) (offset : ℕ) where
  pub receiver_read_done : RR.removes r offset ≡ true → ReadDone (RR.read_of r offset).answer
  receiver_read_done some =
      let P : RR.Reading → Type 0 = λ x. ReadDone x.answer in
      let held = right_of (eqb offset 20 && not r.modes.memory_requests) (not (is_empty r.end.silo)) some in
      let named = left_of (eqb offset 20) (not r.modes.memory_requests) (left_of (eqb offset 20 && not r.modes.memory_requests) (not (is_empty r.end.silo)) some) in
      either P (eqb offset 20)
      (λ e. either P (is_empty r.end.silo) (λ none. absurd (true≢false (sym held ∙ ap not none))) (λ e. either P r.modes.memory_requests (λ e. refl) (λ e. refl)))
      (λ e. absurd (true≢false (sym named ∙ e)))

  pub receiver_write_done : (word : ℕ) → RW.changes offset ≡ true → WriteDone (RW.written r offset word).answer
  receiver_write_done word some =
      let P : RW.Written → Type 0 = λ w. WriteDone w.answer in
      either P (eqb offset 16) (λ e. refl)
      (λ a. either P (eqb offset 18) (λ e. refl)
      (λ b. either P (eqb offset 22) (λ e. refl) (λ c. either P (eqb offset 24) (λ e. refl) (λ e. absurd (false≢true (rw (a, b, c, e) at some))))))

pub receiver_byte_done : (r : Receiver) (offset byte : ℕ) → RW.changes_byte offset ≡ true → WriteDone (RW.byte_written r offset byte).answer
receiver_byte_done r offset byte some =
    either (λ (w : RW.Written). WriteDone w.answer) (eqb (even_below offset) 20) (λ e. absurd (shut e))
    (λ e. receiver_write_done r (even_below offset) (with_half (read_word (RR.show_of r (even_below offset))) offset byte) some)
  where
    shut : eqb (even_below offset) 20 ≡ true → ⊥
    shut e = false≢true (subst (λ (n : ℕ). RW.changes n ≡ true) (eqb-true (even_below offset) 20 e) some)
