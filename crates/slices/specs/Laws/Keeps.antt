-- A slice leaves both ends within the values their numbers may take; where the transmitter is idle, as they were; a receiver open with
-- another as it was, and a closed one by anything but an opening word; an opening word closes one that is open with its transmitter; and an
-- open transmitter that hears nobody closes.
-- Assumes nothing.
use Rattle.std.specs.Prelude.{Bool, true, false, not, ◌&&◌, ◌≡◌, refl, ℕ, ◌<◌, eqb}
use Rattle.std.proofs.Common.{true≢false, sym, ap, ◌∙◌, lit<}
use Rattle.answering.specs.Choice.{open_with_another}
use Rattle.answering.specs.Events as A
use Rattle.answering.proofs.Laws.Keeps.{code_lt, later_untouched, opening_breaks_off, other_untouched, within_answered}
use Rattle.answering.specs.Rules.{answered_by, answering, untouched}
use Rattle.ends.specs.Laws.EndKept.{raised_fits}
use Rattle.laws.specs.Pick.{pick, past, either}
use Rattle.receiver.specs.Side as R
use Rattle.receiver.specs.declared.side.Receiver.{Receiver}
use Rattle.sending.specs.Choice.{acts_on, all_sent, chosen, is_opening, sent_by, wants_on}
use Rattle.sending.proofs.Laws.Keeps.{code_lt as sent_lt, within_heard}
use Rattle.sending.specs.declared.choice.Choice.{Choice}
use Rattle.silos.specs.Silo.{is_empty}
use Rattle.transmitter.specs.Side as T
use Rattle.transmitter.specs.declared.side.Transmitter.{Transmitter}
use Rattle.words.specs.Codes.{no_codes}
use Rattle.words.specs.Lines.{answered, damaged}
use Rattle.words.specs.Laws.LineLaws.{code_stays, mark_stays, serial_stays}
use Rattle.words.specs.declared.lines.Sent.{Sent}
use Rattle.slices.specs.Slice.{ended, passed, exchanged, exchanged_as, unheard, sent_alone, sent_alone_as}
use Rattle.slices.specs.declared.Alone.{Alone}
use Rattle.slices.specs.declared.Pair.{Pair}

-- what an open transmitter sends: nothing of its own where it has an error, else one of the others, and no opening word
module _ (t : Transmitter) (open_now : t.end.opened ≡ true) where
  open_sends : (P : Choice → Type 0) → (T.has_error t ≡ true → P Choice.Stopped)
      → (T.has_error t ≡ false → P Choice.LastCrc × P Choice.DueCrc × P Choice.Word × P Choice.Null) → P (chosen t)
  open_sends P stopped others =
      either P t.end.opened
      (λ o. either P (T.has_error t) stopped
      (λ none. either P t.channel.ending (λ e. (others none).0)
      (λ e. either P (t.channel.awaiting && wants_on t) (λ e. (others none).1)
      (λ e. either P (all_sent t) (λ e. (others none).0)
      (λ e. either P (eqb t.end.block 128 && wants_on t) (λ e. (others none).1)
      (λ e. either P (wants_on t && not (is_empty t.end.silo)) (λ e. (others none).2) (λ e. (others none).3)))))))
      (λ shut. absurd (true≢false (sym open_now ∙ shut)))

  pub no_opening : is_opening (chosen t) ≡ false
  no_opening = open_sends (λ c. is_opening c ≡ false) (λ e. refl) (λ e. (refl, refl, refl, refl))

  -- B 00: it closes; with TXM ERR by the chart, or where it had an error by row 00, "B setting nothing"
  pub alone_closes : (sent_alone t).transmitter.end.opened ≡ false
  alone_closes = open_sends (λ c. (sent_alone_as t c).transmitter.end.opened ≡ false) (λ e. refl) (λ e. (refl, refl, refl, refl))

  pub alone_fails : T.has_error t ≡ false → (sent_alone t).transmitter.faults.transmission_error ≡ true
  alone_fails none =
      open_sends (λ c. (sent_alone_as t c).transmitter.faults.transmission_error ≡ true) (λ e. absurd (true≢false (sym e ∙ none))) (λ e. (refl, refl, refl, refl))

  pub alone_stopped : T.has_error t ≡ true → (sent_alone t).transmitter.faults ≡ t.faults
  alone_stopped some =
      open_sends (λ c. (sent_alone_as t c).transmitter.faults ≡ t.faults) (λ e. refl) (λ e. absurd (true≢false (sym some ∙ e)))

module _ (t : Transmitter) (r : Receiver) (from mask : ℕ) (parity : Bool) where
  -- an idle transmitter leaves both
  pub idle : chosen t ≡ Choice.Idle → exchanged t r from mask parity ≡ record { transmitter = t; receiver = r; codes = no_codes }
  idle e = ap (λ c. exchanged_as t c r from mask parity) e

  -- so does one that does not act
  pub idle_pair : acts_on (chosen t) ≡ false → exchanged t r from mask parity ≡ record { transmitter = t; receiver = r; codes = no_codes }
  idle_pair e = sym (past _ e refl)

  -- a receiver open with another is left as it was
  pub another : open_with_another r from ≡ true → (exchanged t r from mask parity).receiver ≡ r
  another e =
      either (λ (p : Pair). p.receiver ≡ r) (acts_on (chosen t))
      (λ acting. ap (λ x. x.side) (other_untouched r from (damaged (sent_by t (chosen t)) mask parity) e)) (λ idle. refl)

  abbrev reached : Sent
  reached = damaged (sent_by t (chosen t)) mask parity

  abbrev alone : Pair
  alone = record { transmitter = (sent_alone t).transmitter; receiver = r; codes = (sent_alone t).codes }

  -- of a receiver that is left as it was with 00 T hears what it hears of none
  left_alone : answered_by r from reached ≡ untouched r → exchanged t r from mask parity ≡ alone
  left_alone e = go (acts_on (chosen t))
    where
      go : (acts : Bool)
          → pick acts (passed t (chosen t) r from (damaged (sent_by t (chosen t)) mask parity)) (record { transmitter = t; receiver = r; codes = no_codes })
          ≡ record {
            transmitter = (pick acts (unheard t (chosen t)) (record { transmitter = t; codes = no_codes })).transmitter;
            receiver = r;
            codes = (pick acts (unheard t (chosen t)) (record { transmitter = t; codes = no_codes })).codes;
          }
      go true = ap (ended t (chosen t)) e
      go false = refl

  -- so of one open with another: rule 1
  pub as_alone : open_with_another r from ≡ true → exchanged t r from mask parity ≡ alone
  as_alone e = left_alone (other_untouched r from reached e)

  -- and of a closed one, where this is no opening word: document 02, No. 1
  pub later_alone : r.end.opened ≡ false → is_opening (chosen t) ≡ false → exchanged t r from mask parity ≡ alone
  later_alone shut later = left_alone (later_untouched r from reached shut (mark_stays (sent_by t (chosen t)) mask parity ∙ later))

  -- so of a closed one an open T hears what it hears of none: 00, by which it closes
  pub open_alone : t.end.opened ≡ true → r.end.opened ≡ false → exchanged t r from mask parity ≡ alone
  open_alone open_now shut = later_alone shut (no_opening t open_now)

  -- an opening word at one that is open with this transmitter: TXM ERR, it closes, 00
  pub opening_again : chosen t ≡ Choice.Opening → r.end.opened ≡ true → r.modes.sender ≡ from
      → exchanged t r from mask parity
      ≡ ended t Choice.Opening (answering 0 (A.closed (A.transmission_failed (A.showing r 2 0))))
  opening_again e open_now same =
      let sent = sent_by t Choice.Opening in
      ap (λ c. exchanged_as t c r from mask parity) e
      ∙ ap (ended t Choice.Opening) (opening_breaks_off r from (damaged sent mask parity) open_now same (mark_stays sent mask parity))
      ∙ ap (λ (a : ℕ). ended t Choice.Opening (answering 0 (A.closed (A.transmission_failed (A.showing r a 0))))) (code_stays sent mask parity)

  pub within_transmitter : T.Within t → T.Within (exchanged t r from mask parity).transmitter
  within_transmitter h =
      either (λ (p : Pair). T.Within p.transmitter) (acts_on (chosen t))
      (λ e. within_heard t (answered_by r from (damaged (sent_by t (chosen t)) mask parity)).answer h
      (code_lt r from (damaged (sent_by t (chosen t)) mask parity))) (λ e. h)

  pub within_receiver : R.Within r → from < 32 → R.Within (exchanged t r from mask parity).receiver
  within_receiver h address =
      either (λ (p : Pair). R.Within p.receiver) (acts_on (chosen t))
      (λ e. within_answered r h from (damaged (sent_by t (chosen t)) mask parity) address
      (rw (code_stays (sent_by t (chosen t)) mask parity) (sent_lt (chosen t)))
      (rw (serial_stays (sent_by t (chosen t)) mask parity) (raised_fits t.end.serial))) (λ e. h)

pub idle_alone : (t : Transmitter) → acts_on (chosen t) ≡ false → sent_alone t ≡ record { transmitter = t; codes = no_codes }
idle_alone t e = sym (past _ e refl)

pub within_alone : (t : Transmitter) → T.Within t → T.Within (sent_alone t).transmitter
within_alone t h = either (λ (p : Alone). T.Within p.transmitter) (acts_on (chosen t)) (λ e. within_heard t (answered 0) h (lit< tt)) (λ e. h)
