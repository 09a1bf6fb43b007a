-- What every answer keeps: the code B is a code, who is not of the channel leaves R untouched, an opening word breaks a message off, and R
-- stays within the values its numbers may take.
-- Assumes nothing.
use Rattle.std.specs.Prelude.{Bool, true, false, not, ◌&&◌, ◌||◌, ◌⊎◌, ◌≡◌, refl, ℕ, ◌^◌, ◌<◌, eqb}
use Rattle.std.proofs.Common.{true≢false, inl, inr, ap, ap₂, sym, ◌∙◌, arith, eq-eqb, lit<, lit≤}
use Rattle.std.proofs.lemmas.Bool.{false≢true, eqb-false, not-false}
use Rattle.ends.specs.Ends as E
use Rattle.ends.specs.Laws.EndKept.{silo_kept, shown_kept, restart_kept, count_kept, opening_kept}
use Rattle.laws.specs.Pick.{past, here, either}
use Rattle.receiver.specs.Laws.Keeps.{within_requested}
use Rattle.receiver.specs.Side.{Within, has_error, data_in_ready, data_out_ready}
use Rattle.receiver.specs.declared.side.Receiver.{Receiver}
use Rattle.silos.specs.Laws.Laws.{sized_put}
use Rattle.words.specs.Lines.{answered}
use Rattle.words.specs.Laws.CodeLaws.{coded_none, coded_shown}
use Rattle.words.specs.declared.lines.Sent.{Sent}
use Rattle.answering.specs.Choice.{open_with_another, reopening, may_open, closing_fault, rejecting, truncating, decided_crc, decided_word, decided_by_code, decided_open, decided}
use Rattle.answering.specs.Events.{showing, closed, parity_failed, transmission_failed, reject_completed, succeeded, word_kept, word_stored, opening}
use Rattle.answering.specs.Rules.{untouched, broken_off, answered_as, answered_by}
use Rattle.answering.specs.declared.choice.Rule.{Rule}

-- ---- the code B

code_as : (r : Receiver) (from : ℕ) (sent : Sent) (rule : Rule) → (answered_as r from sent rule).answer.code < 4
code_as r from sent Rule.Other = lit< tt
code_as r from sent Rule.Reopened = lit< tt
code_as r from sent Rule.Opens = lit< tt
code_as r from sent Rule.Refuses = lit< tt
code_as r from sent Rule.Faulted = lit< tt
code_as r from sent Rule.BadParity = lit< tt
code_as r from sent Rule.OffLine = lit< tt
code_as r from sent Rule.Rejects = lit< tt
code_as r from sent Rule.Truncates = lit< tt
code_as r from sent Rule.TakesCrc = lit< tt
code_as r from sent Rule.BadCrc = lit< tt
code_as r from sent Rule.Restarts = lit< tt
code_as r from sent Rule.Waits = lit< tt
code_as r from sent Rule.Succeeds = lit< tt
code_as r from sent Rule.Stores = lit< tt
code_as r from sent Rule.NotReady = lit< tt
code_as r from sent Rule.Null = lit< tt

pub code_lt : (r : Receiver) (from : ℕ) (sent : Sent) → (answered_by r from sent).answer.code < 4
code_lt r from sent = code_as r from sent (decided r from sent)

-- ---- a slice that is not of R's channel: "no change"

module _ (r : Receiver) (from : ℕ) (sent : Sent) where
  pub other_untouched : open_with_another r from ≡ true → answered_by r from sent ≡ untouched r
  other_untouched other =
      let rule : Rule.Other ≡ decided r from sent = here _ other refl in
      ap (answered_as r from sent) (sym rule)

  pub refused_untouched : r.end.opened ≡ false → may_open r sent ≡ false → answered_by r from sent ≡ untouched r
  refused_untouched shut refused =
      let own : open_with_another r from ≡ false = rw shut in
      let fresh : reopening r sent ≡ false = rw shut in
      let rule : Rule.Refuses ≡ decided r from sent = past _ own (past _ fresh (here _ (ap not shut) (past _ refused refl))) in
      ap (answered_as r from sent) (sym rule)

  -- ---- document 02, No. 1

  -- "a closed receiver answers 00 to anything but an opening word"
  pub later_untouched : r.end.opened ≡ false → sent.opening ≡ false → answered_by r from sent ≡ untouched r
  later_untouched shut later = refused_untouched shut (rw later)

  -- "At a receiver open with that same transmitter it sets TXM ERR, closes and gets 00", whatever else stands
  pub opening_breaks_off : r.end.opened ≡ true → r.modes.sender ≡ from → sent.opening ≡ true → answered_by r from sent ≡ broken_off r sent
  opening_breaks_off open_now same first =
      let own : open_with_another r from ≡ false = rw (open_now, eq-eqb r.modes.sender from same) in
      let again : reopening r sent ≡ true = rw (open_now, first) in
      let rule : Rule.Reopened ≡ decided r from sent = past _ own (here _ again refl) in
      ap (answered_as r from sent) (sym rule)

  -- so an opening word gets 00, or 11 where R opens
  abbrev Met : Rule → Type 0
  Met rule = ((answered_as r from sent rule).answer ≡ answered 0) ⊎ ((answered_as r from sent rule).answer ≡ answered 3)

  pub opening_answered : sent.opening ≡ true → ((answered_by r from sent).answer ≡ answered 0) ⊎ ((answered_by r from sent).answer ≡ answered 3)
  opening_answered first =
      either Met (open_with_another r from) (λ e. inl refl)
      (λ e. either Met (reopening r sent) (λ e. inl refl)
      (λ goes_on. either Met (not r.end.opened) (λ e. either Met (may_open r sent) (λ e. inr refl) (λ e. inl refl))
      (λ e. absurd (true≢false (sym (ap₂ ◌&&◌ (not-false r.end.opened e) first) ∙ goes_on)))))

-- ---- the values of the numbers

module _ (r : Receiver) (end : E.Within r.end) (sender : r.modes.sender < 32) where
  -- closing, and a word that is stored, clear the period's mark
  shut : Within (closed r)
  shut = record { end = end; sender = sender; truncated = λ e. absurd (false≢true e); marked = λ e. absurd (false≢true e) }

  stored : (r.channel.truncated ≡ true → r.end.opened ≡ true) → (sent : Sent) → r.end.block < 128 → Within (word_stored r sent)
  stored truncated sent short =
      let counted = count_kept (silo_kept end (sized_put 64 (lit≤ tt) r.end.silo sent.word end.silo)) sent.word short in
      let kept : Within (word_kept r sent) = record { end = counted; sender = sender; truncated = truncated; marked = λ e. absurd (false≢true e) } in
      either Within r.commands.receive_data (λ e. kept) (λ e. within_requested (word_kept r sent) kept)

module _ (r : Receiver) (h : Within r) (from : ℕ) (sent : Sent) (address : from < 32) (code : sent.code < 4) (serial : sent.serial < 2 ^ 16) where
  abbrev Kept : Rule → Type 0
  Kept rule = Within (answered_as r from sent rule).side

  -- the codes of the slice are shown
  shows : (b : ℕ) → b < 4 → E.Within (showing r sent.code b).end
  shows b fits = shown_kept h.end (coded_shown r.end.shown (has_error r) sent.code b h.end.shown code fits)

  -- a word is stored at the opening, or with fewer than 128 since the last CRC
  kept_opens : Kept Rule.Opens
  kept_opens =
      stored (opening (showing r sent.code 3) from sent.serial) (opening_kept (shows 3 (lit< tt)) serial) address (λ e. refl) sent (lit< tt)

  kept_stores : eqb r.end.block 128 ≡ false → Kept Rule.Stores
  kept_stores e =
      stored (showing r sent.code 3) (shows 3 (lit< tt)) h.sender h.truncated sent (omega (arith, h.end.block, eqb-false r.end.block 128 e))

  kept_faulted : Kept Rule.Faulted
  kept_faulted = shut (showing r sent.code 0) (shows 0 (lit< tt)) h.sender

  kept_check_failed : Kept Rule.BadCrc
  kept_check_failed = shut (parity_failed (showing r sent.code 2)) (shows 2 (lit< tt)) h.sender

  kept_broken_off : Kept Rule.OffLine
  kept_broken_off = shut (transmission_failed (showing r sent.code 0)) (shows 0 (lit< tt)) h.sender

  kept_rejects : Kept Rule.Rejects
  kept_rejects = shut (reject_completed (showing r sent.code 1)) (shows 1 (lit< tt)) h.sender

  kept_succeeds : Kept Rule.Succeeds
  kept_succeeds = shut (succeeded (showing r sent.code 3)) (shown_kept h.end coded_none) h.sender

  kept_truncates : r.end.opened ≡ true → Kept Rule.Truncates
  kept_truncates open_now = record { end = shows 1 (lit< tt); sender = h.sender; truncated = λ e. open_now; marked = h.marked }

  kept_takes : Kept Rule.TakesCrc
  kept_takes = record { end = shows 1 (lit< tt); sender = h.sender; truncated = h.truncated; marked = h.marked }

  kept_restarts : Kept Rule.Restarts
  kept_restarts = record { end = restart_kept (shows 3 (lit< tt)); sender = h.sender; truncated = h.truncated; marked = h.marked }

  kept_waiting : Kept Rule.Null
  kept_waiting = record { end = shows 1 (lit< tt); sender = h.sender; truncated = h.truncated; marked = h.marked }

  kept_crc : (due : Bool) → Kept (decided_crc r due)
  kept_crc due =
      either Kept (not r.channel.owed) (λ e. kept_takes)
      (λ e. either Kept (not r.channel.good) (λ e. kept_check_failed)
      (λ e. either Kept due (λ e. kept_restarts)
      (λ e. either Kept (data_out_ready r && not r.channel.truncated) (λ e. kept_waiting) (λ e. kept_succeeds))))

  kept_word : eqb r.end.block 128 ≡ false → Kept (decided_word r)
  kept_word short =
      either Kept ((r.commands.receive_data || r.commands.receive_word) && data_in_ready r) (λ e. kept_stores short) (λ e. kept_waiting)

  kept_by_code : Kept (decided_by_code r sent)
  kept_by_code =
      either Kept (eqb sent.code 3) (λ e. kept_crc false)
      (λ e. either Kept (eqb sent.code 2) (λ e. either Kept (eqb r.end.block 128) (λ e. kept_crc true) kept_word)
      (λ e. kept_waiting))

  kept_open : r.end.opened ≡ true → Kept (decided_open r sent)
  kept_open open_now =
      either Kept (closing_fault r.faults) (λ e. kept_faulted)
      (λ e. either Kept r.channel.bad_parity (λ e. kept_check_failed)
      (λ e. either Kept (eqb sent.code 0) (λ e. kept_broken_off)
      (λ e. either Kept (rejecting r) (λ e. kept_rejects) (λ e. either Kept (truncating r sent) (λ e. kept_truncates open_now) (λ e. kept_by_code)))))

  pub within_answered : Within (answered_by r from sent).side
  within_answered =
      either Kept (open_with_another r from) (λ e. h)
      (λ e. either Kept (reopening r sent) (λ e. kept_broken_off)
      (λ e. either Kept (not r.end.opened) (λ e. either Kept (may_open r sent) (λ e. kept_opens) (λ e. h)) (λ e. kept_open (not-false r.end.opened e))))
