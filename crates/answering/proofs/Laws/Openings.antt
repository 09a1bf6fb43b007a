-- When R opens: an opening word is answered 11, and nothing else; R was closed before it, and is open after it.
-- Assumes nothing.
use Rattle.std.specs.Prelude.{Bool, true, false, not, ◌&&◌, ◌||◌, ◌≡◌, refl, ℕ, eqb}
use Rattle.std.proofs.Common.{true≢false, ap₂, sym, ◌∙◌}
use Rattle.std.proofs.lemmas.Bool.{false≢true, not-false, not-true}
use Rattle.laws.specs.Pick.{by, either}
use Rattle.receiver.specs.Side.{data_in_ready, data_out_ready}
use Rattle.receiver.specs.declared.side.Receiver.{Receiver}
use Rattle.words.specs.declared.lines.Sent.{Sent}
use Rattle.answering.specs.Choice.{open_with_another, reopening, may_open, closing_fault, rejecting, truncating, decided_crc, decided_open, decided}
use Rattle.answering.specs.Rules.{answered_as, answered_by}
use Rattle.answering.specs.Serials.{opens_by}
use Rattle.answering.specs.declared.choice.Rule.{Rule}

module _ (r : Receiver) (from : ℕ) (sent : Sent) where
  abbrev By : Rule → Type 0
  By rule = opens_by rule ≡ (sent.opening && eqb (answered_as r from sent rule).answer.code 3)

  abbrev Never : Rule → Type 0
  Never rule = opens_by rule ≡ false

  not_answered : (opening : Bool) → false ≡ (opening && false)
  not_answered true = refl
  not_answered false = refl

  crc_never : (due : Bool) → Never (decided_crc r due)
  crc_never due =
      either Never (not r.channel.owed) (λ e. refl)
      (λ e. either Never (not r.channel.good) (λ e. refl)
      (λ e. either Never due (λ e. refl) (λ e. either Never (data_out_ready r && not r.channel.truncated) (λ e. refl) (λ e. refl))))

  open_never : Never (decided_open r sent)
  open_never =
      either Never (closing_fault r.faults) (λ e. refl)
      (λ e. either Never r.channel.bad_parity (λ e. refl)
      (λ e. either Never (eqb sent.code 0) (λ e. refl)
      (λ e. either Never (rejecting r) (λ e. refl)
      (λ e. either Never (truncating r sent) (λ e. refl)
      (λ e. either Never (eqb sent.code 3) (λ e. crc_never false)
      (λ e. either Never (eqb sent.code 2)
      (λ e. either Never (eqb r.end.block 128) (λ e. crc_never true)
      (λ e. either Never ((r.commands.receive_data || r.commands.receive_word) && data_in_ready r) (λ e. refl) (λ e. refl)))
      (λ e. refl)))))))

  pub opens_by_word : opens_by (decided r from sent) ≡ (sent.opening && eqb (answered_by r from sent).answer.code 3)
  opens_by_word =
      either By (open_with_another r from) (λ e. not_answered sent.opening)
      (λ e. either By (reopening r sent) (λ e. not_answered sent.opening)
      (λ goes_on. either By (not r.end.opened)
      (λ shut. either By (may_open r sent)
      (λ may. by sent.opening (λ e. rw e) (λ later. absurd (false≢true (rw later at may))))
      (λ e. not_answered sent.opening))
      (λ open_now. open_never
      ∙ by sent.opening (λ first. absurd (true≢false (sym (ap₂ ◌&&◌ (not-false r.end.opened open_now) first) ∙ goes_on))) (λ later. rw later))))

  abbrev Both : Rule → Type 0
  Both rule = opens_by rule ≡ true → (r.end.opened ≡ false) × ((answered_as r from sent rule).side.end.opened ≡ true)

  pub opens_now_lem : Both (decided r from sent)
  opens_now_lem =
      either Both (open_with_another r from) (λ e f. absurd (false≢true f))
      (λ e. either Both (reopening r sent) (λ e f. absurd (false≢true f))
      (λ e. either Both (not r.end.opened)
      (λ shut. either Both (may_open r sent)
      (λ may f. (not-true r.end.opened shut, either (λ (x : Receiver). x.end.opened ≡ true) r.commands.receive_data (λ e. refl) (λ e. refl)))
      (λ e f. absurd (false≢true f)))
      (λ e f. absurd (true≢false (sym f ∙ open_never)))))
