-- The calls at a unit on two states that are the same but for the layout: the same answer, and states that are the same again.
-- Assumes nothing.
use Rattle.std.specs.Prelude.{Bool, not, ◌&&◌, List, ◌≡◌, refl, ℕ, ◌^◌, ◌<◌, eqb, ltb, leb, Result, Ok, Err}
use Rattle.std.proofs.Common.{sym, ◌∙◌, leb-false}
use Rattle.std.proofs.Math.Path.{subst⁻¹}
use Rattle.accesses.specs.Masters.{mastership_of}
use Rattle.accesses.specs.Reading.{unit_read}
use Rattle.accesses.specs.Writing.{unit_written, unit_byte_written}
use Rattle.cells.specs.Fitted.{transmitter_of, receiver_of, master_of}
use Rattle.cells.specs.Layout.{count_in, holder_in}
use Rattle.frames.specs.Laws.Leaves.{Agree, alike}
use Rattle.frames.specs.Laws.Reads.{read_leaves}
use Rattle.frames.specs.Laws.Resets.{reset_leaves, period_leaves}
use Rattle.frames.specs.Laws.Sides.{Sides, sides_of}
use Rattle.frames.specs.Laws.Writes.{write_leaves, byte_leaves}
use Rattle.laws.specs.Pick.{pick, either}
use Rattle.master.specs.Reading as MR
use Rattle.master.specs.Writing as MW
use Rattle.pcl.specs.Calls.{admitted, read_call, write_call, byte_call, reset_call, period_call}
use Rattle.receiver_registers.specs.Reading as RR
use Rattle.receiver_registers.specs.Writing as RW
use Rattle.transmitter_registers.specs.Reading as TR
use Rattle.transmitter_registers.specs.Writing as TW
use Rattle.words.specs.declared.answers.Refusal.{Refusal}
use Rattle.words.specs.declared.answers.Write.{Write}
use Rattle.layouts.specs.Same.{Same}
use Rattle.layouts.specs.Laws.Agreeing.{read_agrees, written_agrees, byte_agrees, reset_agrees, period_agrees}
use Rattle.layouts.specs.Laws.Sames.{left_same}

-- ---- the answers on the sides, as `accesses` has them on the cells

abbrev read_answer : Sides → ℕ → ℕ → Result ℕ Refusal
read_answer s unit offset =
    pick (eqb offset 10)
    (Ok
    (MR.read_of (s.master unit) (mastership_of s.holder unit) (s.transmitter unit).end.opened (s.transmitter unit).modes.read_silo).word)
    (pick (ltb offset 16) (TR.read_of (s.transmitter unit) offset).answer (RR.read_of (s.receiver unit) offset).answer)

abbrev word_answer : Sides → ℕ → ℕ → ℕ → Result Write Refusal
word_answer s unit offset word =
    pick (eqb offset 0 && TW.initialises word) (Ok Write.Done)
    (pick (eqb offset 10) (MW.word_written (s.master unit) (mastership_of s.holder unit) (s.transmitter unit).modes.read_silo word).answer
    (pick (ltb offset 16) (TW.written (s.transmitter unit) offset word).answer (RW.written (s.receiver unit) offset word).answer))

abbrev byte_answer : Sides → ℕ → ℕ → ℕ → Result Write Refusal
byte_answer s unit offset byte =
    pick (eqb offset 0 && TW.initialises byte) (Ok Write.Done)
    (pick (eqb offset 10) (MW.low_byte_written (s.master unit) (mastership_of s.holder unit) (s.transmitter unit).modes.read_silo byte).answer
    (pick (eqb offset 11) (MW.high_byte_written (s.master unit) (mastership_of s.holder unit) byte).answer
    (pick (ltb offset 16) (TW.byte_written (s.transmitter unit) offset byte).answer (RW.byte_written (s.receiver unit) offset byte).answer)))

module _ (n : ℕ) {s o : Sides} (h : Agree n s o) (unit : ℕ) (there : unit < n) where
  read_answers : (offset : ℕ) → read_answer s unit offset ≡ read_answer o unit offset
  read_answers offset = rw (h.transmitter unit there, h.receiver unit there, h.master unit there, h.holder)

  word_answers : (offset word : ℕ) → word_answer s unit offset word ≡ word_answer o unit offset word
  word_answers offset word = rw (h.transmitter unit there, h.receiver unit there, h.master unit there, h.holder)

  byte_answers : (offset byte : ℕ) → byte_answer s unit offset byte ≡ byte_answer o unit offset byte
  byte_answers offset byte = rw (h.transmitter unit there, h.receiver unit there, h.master unit there)

-- the answer is the same whether a side is put back or not
one_answer : {A : Type 0} (t : Bool) (x : A) (put left : List ℕ) → (pick {A = A × List ℕ} t (x, put) (x, left)).0 ≡ x
one_answer {A} t x put left = either (λ (p : A × List ℕ). p.0 ≡ x) t (λ e. refl) (λ e. refl)

module _ (cells : List ℕ) (unit : ℕ) where
  read_answer_lem : (offset : ℕ) → (unit_read cells unit offset).0 ≡ read_answer (sides_of cells) unit offset
  read_answer_lem offset =
      let P : Result ℕ Refusal × List ℕ → Result ℕ Refusal → Type 0 = λ p a. p.0 ≡ a in
      alike P (eqb offset 10) (λ e. one_answer (MR.removes (master_of cells unit) (transmitter_of cells unit).modes.read_silo) _ _ _)
      (λ e. alike P (ltb offset 16) (λ e. one_answer (TR.removes (transmitter_of cells unit) offset) _ _ _)
      (λ e. one_answer (RR.removes (receiver_of cells unit) offset) _ _ _))

  word_answer_lem : (offset word : ℕ) → (unit_written cells unit offset word).0 ≡ word_answer (sides_of cells) unit offset word
  word_answer_lem offset word =
      let P : Result Write Refusal × List ℕ → Result Write Refusal → Type 0 = λ p a. p.0 ≡ a in
      alike P (eqb offset 0 && TW.initialises word) (λ e. refl)
      (λ e. alike P (eqb offset 10) (λ e. refl)
      (λ e. alike P (ltb offset 16) (λ e. one_answer (TW.changes offset) _ _ _) (λ e. one_answer (RW.changes offset) _ _ _)))

  byte_answer_lem : (offset byte : ℕ) → (unit_byte_written cells unit offset byte).0 ≡ byte_answer (sides_of cells) unit offset byte
  byte_answer_lem offset byte =
      let P : Result Write Refusal × List ℕ → Result Write Refusal → Type 0 = λ p a. p.0 ≡ a in
      let m = master_of cells unit in
      let reading = (transmitter_of cells unit).modes.read_silo in
      alike P (eqb offset 0 && TW.initialises byte) (λ e. refl)
      (λ e. alike P (eqb offset 10)
      (λ e. either (λ p. P p (MW.low_byte_written m (mastership_of (holder_in cells) unit) reading byte).answer) (MW.takes_address m reading) (λ e. refl) (λ none. rw none))
      (λ e. alike P (eqb offset 11) (λ e. refl)
      (λ e. alike P (ltb offset 16) (λ e. one_answer (TW.changes_byte offset) _ _ _) (λ e. one_answer (RW.changes_byte offset) _ _ _))))

-- ---- the calls

-- the same answer, and states that are the same but for the layout
pub record AlikeCalls {A : Type 0} (p q : A × List ℕ) : Type 0 where
  pub answer : p.0 ≡ q.0
  pub cells : Same p.1 q.1

module _ {cells other : List ℕ} (h : Same cells other) where
  -- "9 where the lent state is out of range" answers neither, and "1 where the unit is not fitted" both
  pub admitted_alike : {A B : Type 0} (P : A → B → Type 0) (unit : ℕ) (bad none rest : A) (bad' none' rest' : B) → P none none' → (unit < count_in cells → P rest rest')
      → P (admitted cells unit bad none rest) (admitted other unit bad' none' rest')
  admitted_alike P unit bad none rest bad' none' rest' nothing goes =
      subst⁻¹ (λ (b : Bool). P (pick (not b) bad (pick (leb (count_in cells) unit) none rest)) (admitted other unit bad' none' rest')) h.ranged
      (subst⁻¹ (λ (b : Bool). P (pick (leb (count_in cells) unit) none rest) (pick (not b) bad' (pick (leb (count_in other) unit) none' rest'))) h.other_ranged
      (subst⁻¹ (λ (n : ℕ). P (pick (leb (count_in cells) unit) none rest) (pick (leb n unit) none' rest')) h.count
      (alike P (leb (count_in cells) unit) (λ e. nothing) (λ e. goes (leb-false (count_in cells) unit e)))))

  -- a refusal leaves every cell
  pub refused : {A : Type 0} (a : A) → AlikeCalls (a, cells) (a, other)
  refused a = record { answer = refl; cells = h }

  -- a unit fitted in one is fitted in the other
  pub there_too : (unit : ℕ) → unit < count_in cells → unit < count_in other
  there_too unit there = subst⁻¹ (λ (n : ℕ). unit < n) h.count there

  module _ (unit : ℕ) where
    pub read_alike : (offset : ℕ) → AlikeCalls (read_call cells unit offset) (read_call other unit offset)
    read_alike offset =
        admitted_alike AlikeCalls unit _ _ _ _ _ _ (refused (Err Refusal.NoUnit))
        (λ there.
        record {
          answer =
              (read_answer_lem cells unit offset ∙ read_answers (count_in cells) h.sides unit there offset ∙ sym (read_answer_lem other unit offset));
          cells =
              left_same h (read_leaves cells h.ranged unit there offset) (read_leaves other h.other_ranged unit (there_too unit there) offset)
              (read_agrees (count_in cells) h.sides unit there offset);
        })

    pub write_alike : (offset word : ℕ) → word < 2 ^ 16 → AlikeCalls (write_call cells unit offset word) (write_call other unit offset word)
    write_alike offset word fits =
        admitted_alike AlikeCalls unit _ _ _ _ _ _ (refused (Err Refusal.NoUnit))
        (λ there.
        record {
          answer =
              (word_answer_lem cells unit offset word ∙ word_answers (count_in cells) h.sides unit there offset word ∙ sym (word_answer_lem other unit offset word));
          cells =
              left_same h (write_leaves cells h.ranged unit there offset word fits) (write_leaves other h.other_ranged unit (there_too unit there) offset word fits)
              (written_agrees (count_in cells) h.sides unit there offset word);
        })

    pub byte_alike : (offset byte : ℕ) → byte < 2 ^ 8 → AlikeCalls (byte_call cells unit offset byte) (byte_call other unit offset byte)
    byte_alike offset byte fits =
        admitted_alike AlikeCalls unit _ _ _ _ _ _ (refused (Err Refusal.NoUnit))
        (λ there.
        record {
          answer =
              (byte_answer_lem cells unit offset byte ∙ byte_answers (count_in cells) h.sides unit there offset byte ∙ sym (byte_answer_lem other unit offset byte));
          cells =
              left_same h (byte_leaves cells h.ranged unit there offset byte fits) (byte_leaves other h.other_ranged unit (there_too unit there) offset byte fits)
              (byte_agrees (count_in cells) h.sides unit there offset byte);
        })

    pub reset_alike : AlikeCalls (reset_call cells unit) (reset_call other unit)
    reset_alike =
        admitted_alike AlikeCalls unit _ _ _ _ _ _ (refused (Err Refusal.NoUnit))
        (λ there.
        record {
          answer = refl;
          cells =
              left_same h (reset_leaves cells h.ranged unit there) (reset_leaves other h.other_ranged unit (there_too unit there))
              (reset_agrees (count_in cells) h.sides unit there);
        })

    pub period_alike : AlikeCalls (period_call cells unit) (period_call other unit)
    period_alike =
        admitted_alike AlikeCalls unit _ _ _ _ _ _ (refused (Err Refusal.NoUnit))
        (λ there.
        record {
          answer = refl;
          cells =
              left_same h (period_leaves cells h.ranged unit there) (period_leaves other h.other_ranged unit (there_too unit there))
              (period_agrees (count_in cells) h.sides unit there);
        })
