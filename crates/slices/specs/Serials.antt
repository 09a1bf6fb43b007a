-- Document 02, No. 6: "that the transmitter side raises by one at each opening .. It is copied to the receiver with the opening word". The slice of an opening gives both ends T's serial raised by one, whatever it damages; any other slice leaves both.
-- Assumes nothing.
use Rattle.std.specs.Prelude.{Bool, true, false, ◌&&◌, ◌≡◌, refl, ℕ, eqb}
use Rattle.std.proofs.Common.{ap, sym, ◌∙◌}
use Rattle.answering.specs.Rules.{answered_by}
use Rattle.answering.proofs.Serials as R
use Rattle.answering.proofs.Laws.Openings.{opens_by_word}
use Rattle.ends.specs.Ends.{raised}
use Rattle.laws.specs.Pick.{either, pick}
use Rattle.receiver.specs.declared.side.Receiver.{Receiver}
use Rattle.sending.specs.Choice.{acts_on, chosen, is_opening, sent_by}
use Rattle.sending.proofs.Serials as T
use Rattle.transmitter.specs.declared.side.Transmitter.{Transmitter}
use Rattle.words.specs.Lines.{answered, damaged}
use Rattle.words.specs.Laws.LineLaws.{mark_stays, serial_stays}
use Rattle.slices.specs.Slice.{exchanged, sent_alone}
use Rattle.slices.specs.declared.Alone.{Alone}
use Rattle.slices.specs.declared.Pair.{Pair}

-- T sends an opening word, and it is answered 11
abbrev pub opens : Transmitter → Pair → Bool
opens t p = is_opening (chosen t) && eqb p.codes.b 3

-- what is answered 00 opens nothing
unanswered_leaves : (next serial : ℕ) (opening : Bool) → serial ≡ pick (opening && false) next serial
unanswered_leaves next serial true = refl
unanswered_leaves next serial false = refl

-- nobody has the address that T sends to: B 00
pub alone_keeps : (t : Transmitter) → (sent_alone t).transmitter.end.serial ≡ t.end.serial
alone_keeps t =
    either (λ (a : Alone). a.transmitter.end.serial ≡ t.end.serial) (acts_on (chosen t))
    (λ e. T.only_opening t (chosen t) (answered 0) ∙ sym (unanswered_leaves (raised t.end.serial) t.end.serial (is_opening (chosen t)))) (λ e. refl)

module _ (t : Transmitter) (r : Receiver) (from mask : ℕ) (parity : Bool) where
  abbrev p : Pair
  p = exchanged t r from mask parity

  -- T
  pub sender_raised : p.transmitter.end.serial ≡ pick (opens t p) (raised t.end.serial) t.end.serial
  sender_raised =
      either (λ (q : Pair). q.transmitter.end.serial ≡ pick (opens t q) (raised t.end.serial) t.end.serial) (acts_on (chosen t))
      (λ e. T.only_opening t (chosen t) (answered_by r from (damaged (sent_by t (chosen t)) mask parity)).answer)
      (λ e. unanswered_leaves (raised t.end.serial) t.end.serial (is_opening (chosen t)))

  -- R
  pub receiver_copies : p.receiver.end.serial ≡ pick (opens t p) (raised t.end.serial) r.end.serial
  receiver_copies =
      let sent = damaged (sent_by t (chosen t)) mask parity in
      either (λ (q : Pair). q.receiver.end.serial ≡ pick (opens t q) (raised t.end.serial) r.end.serial) (acts_on (chosen t))
      (λ e. R.only_opening r from sent
      ∙ ap (λ (b : Bool). pick b sent.serial r.end.serial) (opens_by_word r from sent)
      ∙ ap (λ (b : Bool). pick (b && eqb (answered_by r from sent).answer.code 3) sent.serial r.end.serial) (mark_stays (sent_by t (chosen t)) mask parity)
      ∙ ap (λ (n : ℕ). pick (is_opening (chosen t) && eqb (answered_by r from sent).answer.code 3) n r.end.serial) (serial_stays (sent_by t (chosen t)) mask parity))
      (λ e. unanswered_leaves (raised t.end.serial) r.end.serial (is_opening (chosen t)))
