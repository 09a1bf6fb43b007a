-- The slice of an opening: both ends are closed before it and open after it, and in no other slice does a transmitter open.
-- Assumes nothing.
use Rattle.std.specs.Prelude.{Bool, true, false, ◌&&◌, ◌≡◌, refl, ℕ, eqb}
use Rattle.std.proofs.Common.{true≢false, ap, sym, ◌∙◌}
use Rattle.std.proofs.lemmas.Bool.{false≢true}
use Rattle.std.proofs.Math.Path.{subst⁻¹}
use Rattle.answering.specs.Rules.{answered_by}
use Rattle.answering.proofs.Laws.Openings.{opens_by_word, opens_now_lem}
use Rattle.laws.specs.Pick.{by, either, pick}
use Rattle.laws.specs.Laws.Both.{left_of, right_of}
use Rattle.receiver.specs.declared.side.Receiver.{Receiver}
use Rattle.sending.specs.Choice.{acts_on, chosen, is_opening, may_open, sent_by}
use Rattle.sending.specs.Hearing.{heard}
use Rattle.sending.specs.declared.choice.Choice.{Choice}
use Rattle.transmitter.specs.declared.side.Transmitter.{Transmitter}
use Rattle.words.specs.Lines.{damaged}
use Rattle.words.specs.Laws.LineLaws.{mark_stays}
use Rattle.words.specs.declared.lines.Answer.{Answer}
use Rattle.words.specs.declared.lines.Sent.{Sent}
use Rattle.slices.specs.Serials.{opens}
use Rattle.slices.specs.Slice.{exchanged}
use Rattle.slices.specs.declared.Pair.{Pair}
use Rattle.slices.specs.Laws.Keeps.{no_opening}

module _ (t : Transmitter) (answer : Answer) where
  opened_by : (choice : Choice) → is_opening choice ≡ true → eqb answer.code 3 ≡ true → (heard t choice answer).end.opened ≡ true
  opened_by Choice.Idle first three = absurd (false≢true first)
  opened_by Choice.Opening first three =
      rw three (either (λ (x : Transmitter). x.end.opened ≡ true) t.commands.start_transmission (λ e. refl) (λ e. refl))
  opened_by Choice.Stopped first three = absurd (false≢true first)
  opened_by Choice.LastCrc first three = absurd (false≢true first)
  opened_by Choice.DueCrc first three = absurd (false≢true first)
  opened_by Choice.Word first three = absurd (false≢true first)
  opened_by Choice.Null first three = absurd (false≢true first)

  -- any other answer leaves a closed T closed
  acknowledged : t.end.opened ≡ false → (heard t Choice.Opening answer).end.opened ≡ true → eqb answer.code 3 ≡ true
  acknowledged shut =
      by (eqb answer.code 3) (λ e o. e)
      (λ e. rw e (either (λ (x : Transmitter). x.end.opened ≡ true → false ≡ true) (eqb answer.code 0)
      (λ e. either (λ (x : Transmitter). x.end.opened ≡ true → false ≡ true) t.modes.retry_if_busy (λ e o. sym shut ∙ o) (λ e o. sym shut ∙ o))
      (λ e o. sym shut ∙ o)))

module _ (t : Transmitter) (r : Receiver) (from mask : ℕ) (parity : Bool) where
  abbrev sent : Sent
  sent = damaged (sent_by t (chosen t)) mask parity

  abbrev answer : Answer
  answer = (answered_by r from sent).answer

  idle_opens_none : {X : Type 0} (opening : Bool) → (opening && false) ≡ true → X
  idle_opens_none opening e = absurd (false≢true (right_of opening false e))

  pub opens_sender : opens t (exchanged t r from mask parity) ≡ true
      → (t.end.opened ≡ false) × ((exchanged t r from mask parity).transmitter.end.opened ≡ true)
  opens_sender =
      either (λ (q : Pair). opens t q ≡ true → (t.end.opened ≡ false) × (q.transmitter.end.opened ≡ true)) (acts_on (chosen t))
      (λ acts e.
      let first = left_of (is_opening (chosen t)) (eqb answer.code 3) e in (
        by t.end.opened (λ o. absurd (true≢false (sym first ∙ no_opening t o))) (λ shut. shut),
        opened_by t answer (chosen t) first (right_of (is_opening (chosen t)) (eqb answer.code 3) e),
      ))
      (λ idle e. idle_opens_none (is_opening (chosen t)) e)

  pub opens_receiver : opens t (exchanged t r from mask parity) ≡ true
      → (r.end.opened ≡ false) × ((exchanged t r from mask parity).receiver.end.opened ≡ true)
  opens_receiver =
      either (λ (q : Pair). opens t q ≡ true → (r.end.opened ≡ false) × (q.receiver.end.opened ≡ true)) (acts_on (chosen t))
      (λ acts e. opens_now_lem r from sent
      (opens_by_word r from sent ∙ ap (λ (b : Bool). b && eqb answer.code 3) (mark_stays (sent_by t (chosen t)) mask parity) ∙ e))
      (λ idle e. idle_opens_none (is_opening (chosen t)) e)

  -- and in no other slice does a transmitter open
  pub sender_opens : t.end.opened ≡ false → (exchanged t r from mask parity).transmitter.end.opened ≡ true
      → opens t (exchanged t r from mask parity) ≡ true
  sender_opens shut =
      either (λ (q : Pair). q.transmitter.end.opened ≡ true → opens t q ≡ true) (acts_on (chosen t))
      (λ acts.
      let P : Choice → Type 0 = λ choice. (heard t choice answer).end.opened ≡ true → (is_opening choice && eqb answer.code 3) ≡ true in
      let chosen_so : chosen t ≡ pick (may_open t) Choice.Opening Choice.Idle = rw shut in
      by (may_open t)
      (λ may.
      let opening : chosen t ≡ Choice.Opening = chosen_so ∙ rw may in
      subst⁻¹ P opening (acknowledged t answer shut))
      (λ none.
      let idle : chosen t ≡ Choice.Idle = chosen_so ∙ rw none in
      absurd (true≢false (sym acts ∙ ap acts_on idle))))
      (λ idle o. absurd (true≢false (sym o ∙ shut)))
