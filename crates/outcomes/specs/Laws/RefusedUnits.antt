-- An access at a unit that is refused leaves every cell, whatever the cells hold: nothing is put back.
-- Assumes nothing.
use Rattle.std.specs.Prelude.{Bool, true, false, ◌&&◌, List, ◌≡◌, refl, ℕ, ltb, eqb, Result, Option, Some, None}
use Rattle.std.proofs.lemmas.Bool.{false≢true}
use Rattle.std.proofs.Common.{ap, sym, ◌∙◌}
use Rattle.accesses.specs.Reading.{unit_read}
use Rattle.accesses.specs.Writing.{unit_written, unit_byte_written}
use Rattle.bus.specs.declared.slice.Given.{Given}
use Rattle.cells.specs.Fitted.{transmitter_of, receiver_of, master_of}
use Rattle.laws.specs.Pick.{either}
use Rattle.master.specs.Reading as M
use Rattle.master.specs.Writing as MW
use Rattle.master.specs.Writing.{answer_of}
use Rattle.moves.specs.Moving.{transmitter_moved, receiver_moved}
use Rattle.moves.specs.Laws.Nothing.{has_moved, transmitter_answers, receiver_answers, transmitter_stays, receiver_stays}
use Rattle.pcl.specs.Numbers.{slot_number, move_call_number}
use Rattle.pcl.specs.Sides.{sent_by, received_by}
use Rattle.receiver_registers.specs.Reading as R
use Rattle.receiver_registers.specs.Writing as RW
use Rattle.transmitter_registers.specs.Reading as T
use Rattle.transmitter_registers.specs.Writing as TW
use Rattle.words.specs.Answers.{read_number, write_number}
use Rattle.words.specs.declared.answers.Refusal.{Refusal}
use Rattle.outcomes.specs.Unchanged.{leaves_all, Unchanged, BothUnchanged}
use Rattle.outcomes.specs.Laws.RefusedSides.{nothing, transmitter_read_done, transmitter_write_done, transmitter_byte_done, receiver_read_done, receiver_write_done, receiver_byte_done}

-- TMMR's writes answer 0, 5 or 6
never : (refused dropped : Bool) → leaves_all (write_number (answer_of refused dropped)) ≡ false
never true dropped = refl
never false true = refl
never false false = refl

-- a slice that is not refused answers 0 or 8
pub passes : (slot : Option Given) → leaves_all (slot_number slot) ≡ false
passes None = refl
passes (Some g) = refl

module _ (cells : List ℕ) (unit : ℕ) where
  pub unit_read_refused : (offset : ℕ) → Unchanged read_number cells (unit_read cells unit offset)
  unit_read_refused offset =
      let t = transmitter_of cells unit in
      let r = receiver_of cells unit in
      let P = Unchanged read_number cells in
      either P (eqb offset 10) (λ e. either P (M.removes (master_of cells unit) t.modes.read_silo) (λ some h. absurd (false≢true h)) (λ none h. refl))
      (λ e. either P (ltb offset 16)
      (λ e. either P (T.removes t offset) (λ some h. absurd (false≢true (sym (transmitter_read_done t offset some) ∙ h))) (λ none h. refl))
      (λ e. either P (R.removes r offset) (λ some h. absurd (false≢true (sym (receiver_read_done r offset some) ∙ h))) (λ none h. refl)))

  pub unit_write_refused : (offset word : ℕ) → Unchanged write_number cells (unit_written cells unit offset word)
  unit_write_refused offset word =
      let t = transmitter_of cells unit in
      let r = receiver_of cells unit in
      let P = Unchanged write_number cells in
      either P (eqb offset 0 && TW.initialises word) (λ e h. absurd (false≢true h))
      (λ e. either P (eqb offset 10) (λ e h. absurd (false≢true (rw (never _ _) at h)))
      (λ e. either P (ltb offset 16)
      (λ e. either P (TW.changes offset) (λ some h. absurd (false≢true (sym (transmitter_write_done t offset word some) ∙ h))) (λ none h. refl))
      (λ e. either P (RW.changes offset) (λ some h. absurd (false≢true (sym (receiver_write_done r offset word some) ∙ h))) (λ none h. refl))))

  pub unit_byte_refused : (offset byte : ℕ) → Unchanged write_number cells (unit_byte_written cells unit offset byte)
  unit_byte_refused offset byte =
      let t = transmitter_of cells unit in
      let r = receiver_of cells unit in
      let P = Unchanged write_number cells in
      either P (eqb offset 0 && TW.initialises byte) (λ e h. absurd (false≢true h))
      (λ e. either P (eqb offset 10)
      (λ e. either P (MW.takes_address (master_of cells unit) t.modes.read_silo) (λ some h. absurd (false≢true (rw (never _ _) at h))) (λ none h. refl))
      (λ e. either P (eqb offset 11) (λ e h. absurd (false≢true (rw (never _ _) at h)))
      (λ e. either P (ltb offset 16)
      (λ e. either P (TW.changes_byte offset) (λ some h. absurd (false≢true (sym (transmitter_byte_done t offset byte some) ∙ h))) (λ none h. refl))
      (λ e. either P (RW.changes_byte offset) (λ some h. absurd (false≢true (sym (receiver_byte_done r offset byte some) ∙ h))) (λ none h. refl)))))

  module _ (memory : List ℕ) where
    pub sent_refused : BothUnchanged move_call_number cells memory (sent_by memory (transmitter_moved cells memory unit))
    sent_refused h =
        (ap (λ (p : Result (Option ℕ) Refusal × List ℕ). p.1) (transmitter_stays cells memory unit (ap has_moved (sym (transmitter_answers cells memory unit)) ∙ nothing (transmitter_moved cells memory unit).0 h)), refl)

    pub received_refused : BothUnchanged move_call_number cells memory (received_by (receiver_moved cells memory unit))
    received_refused h =
        let k = receiver_stays cells memory unit (ap has_moved (sym (receiver_answers cells memory unit)) ∙ nothing (receiver_moved cells memory unit).0 h) in
        (ap (λ (p : Result (Option ℕ) Refusal × List ℕ × List ℕ). p.1) k, ap (λ (p : Result (Option ℕ) Refusal × List ℕ × List ℕ). p.2) k)
