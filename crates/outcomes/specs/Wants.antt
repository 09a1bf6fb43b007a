-- What each bit of who wants service says: exactly what the move call or the level call at its side would answer. Of every state in range, and
-- of each of the 32 bits: "bit u the transmitter of unit u, bit 16 + u its receiver".
-- Assumes nothing.
use Rattle.std.specs.Prelude.{Bool, true, false, not, ◌&&◌, List, ◌≡◌, refl, ℕ, ◌+◌, ◌^◌, ◌≤◌, ◌<◌, ltb, length, Result, Ok, Err, Option}
use Rattle.std.proofs.Common.{true≢false, ap, sym, ◌∙◌, le-leb, le-ltb, lt-ltb, ltb-false, ltb-true}
use Rattle.std.proofs.lemmas.Bool.{lt-leb}
use Rattle.cells.specs.Fitted.{transmitter_of, receiver_of}
use Rattle.cells.specs.Layout.{count_in, memory_length}
use Rattle.cells.specs.Ranges.{in_range}
use Rattle.cells.specs.Laws.RangeLaws.{in_range_says}
use Rattle.laws.specs.Bits.{bit, bit_at}
use Rattle.laws.specs.Pick.{pick, by, past as pass, here as stop}
use Rattle.moves.specs.Moving.{transmitter_moved, receiver_moved}
use Rattle.moves.specs.Laws.Nothing.{has_moved, transmitter_answers, receiver_answers, transmitter_may_not, receiver_may_not, transmitter_stays, receiver_stays}
use Rattle.pcl.specs.Numbers.{move_call_number, level_value, wants_value}
use Rattle.pcl.specs.Service.{wants_moves_call, wants_interrupts_call}
use Rattle.pcl.specs.Sides.{move_call, level_call}
use Rattle.receiver.specs.Moves as RM
use Rattle.receiver.specs.Requests as RR
use Rattle.service.specs.Wants.{moves_wanted, interrupts_wanted}
use Rattle.service.specs.Laws.Rows.{low_bit, high_bit, mask_fits}
use Rattle.transmitter.specs.Moves as TM
use Rattle.transmitter.specs.Requests as TR
use Rattle.transmitter.specs.declared.side.Transmitter.{Transmitter}
use Rattle.words.specs.Answers.{move_number}
use Rattle.words.specs.declared.answers.Refusal.{Refusal}
use Rattle.outcomes.specs.Laws.MoveCalls.{sender_call, receiver_call}

-- ---- what is said

-- of a mask of who wants moves, and a unit. Where it is fitted, and its memory is lent whole, the move call at its transmitter answers 0 where
-- bit u is set and 4 where it is clear, and that at its receiver goes by bit 16 + u. Where the unit is not fitted both are clear.
pub record SaysMoves (cells : List ℕ) (mask unit : ℕ) : Type 0 where
  pub transmitter : unit < count_in cells → (memory : List ℕ) → memory_length cells unit ≤ length memory
      → move_call_number (move_call cells memory unit 0).0 ≡ pick (bit_at mask unit) 0 4
  pub receiver : unit < count_in cells → (memory : List ℕ) → memory_length cells unit ≤ length memory
      → move_call_number (move_call cells memory unit 1).0 ≡ pick (bit_at mask (16 + unit)) 0 4
  pub none : count_in cells ≤ unit → (bit_at mask unit ≡ false) × (bit_at mask (16 + unit) ≡ false)

-- the bits are of the sides alone: a memory that is too short is answered 9 whatever they say
abbrev pub ShortIsRefused : List ℕ → ℕ → Type 0
ShortIsRefused cells unit =
    unit < count_in cells → (memory : List ℕ) → length memory < memory_length cells unit → (side : ℕ) → move_call_number (move_call cells memory unit side).0 ≡ 9

-- of a mask of who wants an interrupt, and a unit, fitted or not: its two bits are the values of the level call, 0 where that answers 1
pub record SaysInterrupts (cells : List ℕ) (mask unit : ℕ) : Type 0 where
  pub transmitter : bit (bit_at mask unit) ≡ level_value (level_call cells unit 0)
  pub receiver : bit (bit_at mask (16 + unit)) ≡ level_value (level_call cells unit 1)

-- ---- and proved

moved_0 : (m : Result (Option ℕ) Refusal) → has_moved m ≡ true → move_number m ≡ 0
moved_0 (Ok missing) e = refl
moved_0 (Err refusal) e = absurd (true≢false (sym e))

number_of : (m : Result (Option ℕ) Refusal) → (has_moved m ≡ false → m ≡ Err Refusal.Nothing) → move_number m ≡ pick (has_moved m) 0 4
number_of m none = by (has_moved m) (λ e. moved_0 m e ∙ ap (λ (b : Bool). pick b 0 4) (sym e)) (λ e. ap move_number (none e) ∙ ap (λ (b : Bool). pick b 0 4) (sym e))

-- 4 is answered where a side may not move, and only there
module _ (cells memory : List ℕ) (unit : ℕ) where
  abbrev t : Transmitter
  t = transmitter_of cells unit

  sent_4 : has_moved (transmitter_moved cells memory unit).0 ≡ TM.may_move t
  sent_4 =
      by (TM.may_move t)
      (λ may.
      by (has_moved (transmitter_moved cells memory unit).0) (λ e. e ∙ sym may)
      (λ e.
      absurd
      (true≢false
      (sym (transmitter_may_not t memory (memory_length cells unit) (ap has_moved (sym (transmitter_answers cells memory unit)) ∙ e)) ∙ ap not may))))
      (λ none. rw none)

  received_4 : has_moved (receiver_moved cells memory unit).0 ≡ RM.may_move (receiver_of cells unit)
  received_4 =
      by (RM.may_move (receiver_of cells unit))
      (λ may.
      by (has_moved (receiver_moved cells memory unit).0) (λ e. e ∙ sym may)
      (λ e.
      absurd
      (true≢false
      (sym (receiver_may_not (receiver_of cells unit) memory (memory_length cells unit) (ap has_moved (sym (receiver_answers cells memory unit)) ∙ e)) ∙ ap not may))))
      (λ none. rw none)

  sent_number : move_number (transmitter_moved cells memory unit).0 ≡ pick (has_moved (transmitter_moved cells memory unit).0) 0 4
  sent_number =
      number_of (transmitter_moved cells memory unit).0
      (λ e. ap (λ (p : Result (Option ℕ) Refusal × List ℕ). p.0) (transmitter_stays cells memory unit (ap has_moved (sym (transmitter_answers cells memory unit)) ∙ e)))

  received_number : move_number (receiver_moved cells memory unit).0 ≡ pick (has_moved (receiver_moved cells memory unit).0) 0 4
  received_number =
      number_of (receiver_moved cells memory unit).0
      (λ e. ap (λ (p : Result (Option ℕ) Refusal × List ℕ × List ℕ). p.0) (receiver_stays cells memory unit (ap has_moved (sym (receiver_answers cells memory unit)) ∙ e)))

module _ (cells : List ℕ) (ok : in_range cells ≡ true) (unit : ℕ) (h : unit < 16) where
  few : count_in cells ≤ 16
  few = (in_range_says cells ok).most

  moves_mask : wants_value (wants_moves_call cells) ≡ moves_wanted cells
  moves_mask = ap wants_value (sym (pass (Err Refusal.BadState) (ap not ok) refl))

  interrupts_mask : wants_value (wants_interrupts_call cells) ≡ interrupts_wanted cells
  interrupts_mask = ap wants_value (sym (pass (Err Refusal.BadState) (ap not ok) refl))

  pub moves_say : SaysMoves cells (wants_value (wants_moves_call cells)) unit
  moves_say =
      let low = low_bit (λ u. TM.may_move (transmitter_of cells u)) (λ u. RM.may_move (receiver_of cells u)) (count_in cells) few unit h in
      let high = high_bit (λ u. TM.may_move (transmitter_of cells u)) (λ u. RM.may_move (receiver_of cells u)) (count_in cells) few unit h in
      let here : bit_at (wants_value (wants_moves_call cells)) unit ≡ ltb unit (count_in cells) && TM.may_move (transmitter_of cells unit) =
      ap (λ (m : ℕ). bit_at m unit) moves_mask ∙ low in
      let above : bit_at (wants_value (wants_moves_call cells)) (16 + unit) ≡ ltb unit (count_in cells) && RM.may_move (receiver_of cells unit) =
      ap (λ (m : ℕ). bit_at m (16 + unit)) moves_mask ∙ high in
      record {
        transmitter = λ there memory lent.
            ap (λ (o : Result (Option ℕ) Refusal × List ℕ × List ℕ). move_call_number o.0) (sender_call cells ok memory unit there lent)
            ∙ sent_number cells memory unit
            ∙ ap (λ (b : Bool). pick b 0 4) (sent_4 cells memory unit ∙ sym (here ∙ ap (λ (b : Bool). b && TM.may_move (transmitter_of cells unit)) (lt-ltb unit (count_in cells) there)));
        receiver = λ there memory lent.
            ap (λ (o : Result (Option ℕ) Refusal × List ℕ × List ℕ). move_call_number o.0) (receiver_call cells ok memory unit there lent)
            ∙ received_number cells memory unit
            ∙ ap (λ (b : Bool). pick b 0 4) (received_4 cells memory unit ∙ sym (above ∙ ap (λ (b : Bool). b && RM.may_move (receiver_of cells unit)) (lt-ltb unit (count_in cells) there)));
        none = λ absent.
            let past_all = le-ltb unit (count_in cells) absent in
            (here ∙ ap (λ (b : Bool). b && TM.may_move (transmitter_of cells unit)) past_all, above ∙ ap (λ (b : Bool). b && RM.may_move (receiver_of cells unit)) past_all);
      }

  pub short_is_refused : ShortIsRefused cells unit
  short_is_refused there memory less side =
      ap (λ (o : Result (Option ℕ) Refusal × List ℕ × List ℕ). move_call_number o.0)
      (sym (pass _ (ap not ok) (pass _ (lt-leb (count_in cells) unit there) (stop _ (lt-ltb (length memory) (memory_length cells unit) less) refl))))

  pub interrupts_say : SaysInterrupts cells (wants_value (wants_interrupts_call cells)) unit
  interrupts_say =
      let low = low_bit (λ u. TR.level_of (transmitter_of cells u)) (λ u. RR.level_of (receiver_of cells u)) (count_in cells) few unit h in
      let high = high_bit (λ u. TR.level_of (transmitter_of cells u)) (λ u. RR.level_of (receiver_of cells u)) (count_in cells) few unit h in
      record {
        transmitter =
            ap bit (ap (λ (m : ℕ). bit_at m unit) interrupts_mask ∙ low)
            ∙ by (ltb unit (count_in cells)) (λ e. rw (e, ap not ok, lt-leb (count_in cells) unit (ltb-true unit (count_in cells) e)))
            (λ e. rw (e, ap not ok, le-leb (count_in cells) unit (ltb-false unit (count_in cells) e)));
        receiver =
            ap bit (ap (λ (m : ℕ). bit_at m (16 + unit)) interrupts_mask ∙ high)
            ∙ by (ltb unit (count_in cells)) (λ e. rw (e, ap not ok, lt-leb (count_in cells) unit (ltb-true unit (count_in cells) e)))
            (λ e. rw (e, ap not ok, le-leb (count_in cells) unit (ltb-false unit (count_in cells) e)));
      }

  -- there are no other bits
  pub moves_fit : wants_value (wants_moves_call cells) < 2 ^ 32
  moves_fit = rw moves_mask (mask_fits (λ u. TM.may_move (transmitter_of cells u)) (λ u. RM.may_move (receiver_of cells u)) (count_in cells) few)

  pub interrupts_fit : wants_value (wants_interrupts_call cells) < 2 ^ 32
  interrupts_fit = rw interrupts_mask (mask_fits (λ u. TR.level_of (transmitter_of cells u)) (λ u. RR.level_of (receiver_of cells u)) (count_in cells) few)
