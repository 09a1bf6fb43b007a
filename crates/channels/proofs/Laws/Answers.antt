-- What an answer does to R's channel: which word opens it, which is stored, and what R counts. R is not open with another transmitter.
-- Assumes nothing.
use Rattle.std.specs.Prelude.{Bool, true, false, not, ◌&&◌, ◌||◌, [], ◌∷◌, ◌++◌, ◌⊎◌, ◌≡◌, refl, ℕ, ◌+◌, ◌≤◌, ◌<◌, eqb}
use Rattle.std.proofs.Common.{true≢false, inl, inr, ap, ap₂, sym, ◌∙◌, arith, eqb-true}
use Rattle.std.proofs.lemmas.Bool.{false≢true, eqb-false, not-false, not-true}
use Rattle.answering.specs.Choice.{open_with_another, reopening, may_open, closing_fault, rejecting, truncating, decided_crc, decided_by_code, decided_open}
use Rattle.answering.specs.Rules.{Answered, answered_as, answered_by}
use Rattle.answering.specs.declared.choice.Rule.{Rule}
use Rattle.laws.specs.Pick.{by, either}
use Rattle.laws.specs.Laws.Both.{left_of, right_of}
use Rattle.receiver.specs.Side.{has_error, data_in_ready, data_out_ready}
use Rattle.receiver.specs.declared.side.Receiver.{Receiver}
use Rattle.silos.specs.Silo.{Sized, count, put, words}
use Rattle.silos.specs.Laws.Laws.{words_put}
use Rattle.words.specs.Lines.{answered}
use Rattle.words.specs.declared.lines.Sent.{Sent}
use Rattle.channels.proofs.Laws.Hearings.{restarting}

-- what an R that stays open counts: it answers 01 and nothing changes; or A is 10, and a word is stored, or 128 were and a good verdict
-- restarts the count
abbrev pub Waits : Receiver → Answered → Type 0
Waits r a = (a.answer.code ≡ 1) × (a.side.end.block ≡ r.end.block)

abbrev pub Counts : Receiver → Answered → Type 0
Counts r a = (a.answer ≡ answered 3) × (r.end.block ≡ 128 → ⊥) × (a.side.end.block ≡ r.end.block + 1)

abbrev pub Restarts : Receiver → Answered → Type 0
Restarts r a = (a.answer ≡ restarting) × (r.end.block ≡ 128) × (a.side.end.block ≡ 0)

abbrev pub Counting : Receiver → Sent → Answered → Type 0
Counting r sent a = Waits r a ⊎ ((sent.code ≡ 2) × (Counts r a ⊎ Restarts r a))

-- R stays open, and this was no opening word; or R opens, and this was one
abbrev pub StaysOpen : Receiver → Sent → Answered → Type 0
StaysOpen r sent a = (r.end.opened ≡ true) × (a.side.modes.sender ≡ r.modes.sender) × (sent.opening ≡ false) × Counting r sent a

abbrev pub Opens : Receiver → ℕ → Sent → Answered → Type 0
Opens r from sent a =
    (r.end.opened ≡ false) × (a.side.modes.sender ≡ from) × (sent.opening ≡ true) × (a.answer ≡ answered 3) × (a.side.end.block ≡ 1)

-- a word that is stored has A 10, or opens; it is answered 11, R is open, and the word is the last in its silo
pub record Takes (r : Receiver) (sent : Sent) (a : Answered) : Type 0 where
  pub opened : a.side.end.opened ≡ true
  pub answer : a.answer ≡ answered 3
  pub code : sent.opening ≡ false → sent.code ≡ 2
  pub word : words a.side.end.silo ≡ words r.end.silo ++ (sent.word ∷ [])

pub record Answers (r : Receiver) (from : ℕ) (sent : Sent) (a : Answered) : Type 0 where
  pub channel : a.side.end.opened ≡ true → StaysOpen r sent a ⊎ Opens r from sent a
  pub stored : count r.end.silo < count a.side.end.silo → Takes r sent a
  -- R opens by a word that it stores
  pub opens : r.end.opened ≡ false → a.side.end.opened ≡ true → Takes r sent a

module _ (r : Receiver) (sized : Sized 64 r.end.silo) (from : ℕ) (sent : Sent) where
  abbrev P : Rule → Type 0
  P rule = Answers r from sent (answered_as r from sent rule)

  -- where there is room, the word joins at the end
  at_end : data_in_ready r ≡ true → (a : Answered) → a.side.end.silo ≡ put 64 r.end.silo sent.word
      → words a.side.end.silo ≡ words r.end.silo ++ (sent.word ∷ [])
  at_end room a e = ap words e ∙ words_put 64 (omega arith) r.end.silo sized sent.word room

  -- ---- an open R, and no opening word

  module _ (open_now : r.end.opened ≡ true) (later : sent.opening ≡ false) where
    -- where nothing is stored
    on : (a : Answered) → a.side.modes.sender ≡ r.modes.sender → count a.side.end.silo ≤ count r.end.silo
        → (a.side.end.opened ≡ true → Counting r sent a) → Answers r from sent a
    on a same few counting =
        record {
          channel = λ o. inl (open_now, same, later, counting o);
          stored = λ more. absurd (omega arith);
          opens = λ shut o. absurd (true≢false (sym open_now ∙ shut));
        }

    -- R closes, or waits
    closes : (a : Answered) → a.side.modes.sender ≡ r.modes.sender → count a.side.end.silo ≤ count r.end.silo
        → a.side.end.opened ≡ false → Answers r from sent a
    closes a same few shut = on a same few (λ o. absurd (true≢false (sym o ∙ shut)))

    waits : (a : Answered) → a.side.modes.sender ≡ r.modes.sender → count a.side.end.silo ≤ count r.end.silo → Waits r a → Answers r from sent a
    waits a same few y = on a same few (λ o. inl y)

    storing : sent.code ≡ 2 → (r.end.block ≡ 128 → ⊥) → data_in_ready r ≡ true → P Rule.Stores
    storing code low room =
        let stays : Answered → Type 0 = λ a. (a.side.modes.sender ≡ r.modes.sender) × (a.side.end.opened ≡ true)
        × (a.side.end.silo ≡ put 64 r.end.silo sent.word) × (a.answer ≡ answered 3) × (a.side.end.block ≡ r.end.block + 1) in
        let a = answered_as r from sent Rule.Stores in
        let s : stays a = by r.commands.receive_data (λ e. rw e (refl, open_now, refl, refl, refl)) (λ e. rw e (refl, open_now, refl, refl, refl)) in
        record {
          channel = λ o. inl (open_now, s.0, later, inr (code, inl (s.3, low, s.4)));
          stored = λ more. record { opened = s.1; answer = s.3; code = λ e. code; word = at_end room a s.2 };
          opens = λ shut o. absurd (true≢false (sym open_now ∙ shut));
        }

    crc : (due : Bool) → (due ≡ true → (sent.code ≡ 2) × (r.end.block ≡ 128)) → P (decided_crc r due)
    crc due why =
        either P (not r.channel.owed) (λ e. waits (answered_as r from sent Rule.TakesCrc) refl (omega arith) (refl, refl))
        (λ e. either P (not r.channel.good) (λ e. closes (answered_as r from sent Rule.BadCrc) refl (omega arith) refl)
        (λ e. either P due (λ e. on (answered_as r from sent Rule.Restarts) refl (omega arith) (λ o. inr ((why e).0, inr (refl, (why e).1, refl))))
        (λ e. either P (data_out_ready r && not r.channel.truncated) (λ e. waits (answered_as r from sent Rule.Waits) refl (omega arith) (refl, refl))
        (λ e. closes (answered_as r from sent Rule.Succeeds) refl (omega arith) refl))))

    by_code : P (decided_by_code r sent)
    by_code =
        either P (eqb sent.code 3) (λ e. crc false (λ f. absurd (false≢true f)))
        (λ e. either P (eqb sent.code 2)
        (λ word. either P (eqb r.end.block 128) (λ full. crc true (λ f. (eqb-true sent.code 2 word, eqb-true r.end.block 128 full)))
        (λ few. either P ((r.commands.receive_data || r.commands.receive_word) && data_in_ready r)
        (λ may. storing (eqb-true sent.code 2 word) (eqb-false r.end.block 128 few) (right_of (r.commands.receive_data || r.commands.receive_word) (data_in_ready r) may))
        (λ e. waits (answered_as r from sent Rule.NotReady) refl (omega arith) (refl, refl))))
        (λ e. waits (answered_as r from sent Rule.Null) refl (omega arith) (refl, refl)))

    by_rule : P (decided_open r sent)
    by_rule =
        either P (closing_fault r.faults) (λ e. closes (answered_as r from sent Rule.Faulted) refl (omega arith) refl)
        (λ e. either P r.channel.bad_parity (λ e. closes (answered_as r from sent Rule.BadParity) refl (omega arith) refl)
        (λ e. either P (eqb sent.code 0) (λ e. closes (answered_as r from sent Rule.OffLine) refl (omega arith) refl)
        (λ e. either P (rejecting r) (λ e. closes (answered_as r from sent Rule.Rejects) refl (omega arith) refl)
        (λ e. either P (truncating r sent) (λ e. waits (answered_as r from sent Rule.Truncates) refl (omega arith) (refl, refl)) (λ e. by_code)))))

  -- ---- an opening word that breaks a message off

  breaking : P Rule.Reopened
  breaking =
      record {
        channel = λ o. absurd (false≢true o);
        stored = λ more. absurd (omega arith);
        opens = λ shut o. absurd (false≢true o);
      }

  -- ---- a closed R

  module _ (shut : r.end.opened ≡ false) where
    opening : sent.opening ≡ true → data_in_ready r ≡ true → P Rule.Opens
    opening first room =
        let opens : Answered → Type 0 = λ a. (a.side.modes.sender ≡ from) × (a.side.end.opened ≡ true)
        × (a.side.end.silo ≡ put 64 r.end.silo sent.word) × (a.answer ≡ answered 3) × (a.side.end.block ≡ 1) in
        let a = answered_as r from sent Rule.Opens in
        let s : opens a = by r.commands.receive_data (λ e. rw e (refl, refl, refl, refl, refl)) (λ e. rw e (refl, refl, refl, refl, refl)) in
        let takes : Takes r sent a =
        record { opened = s.1; answer = s.3; code = λ later. absurd (true≢false (sym first ∙ later)); word = at_end room a s.2 } in
        record {
          channel = λ o. inr (shut, s.0, first, s.3, s.4);
          stored = λ more. takes;
          opens = λ was o. takes;
        }

    refusing : P Rule.Refuses
    refusing =
        record {
          channel = λ o. absurd (true≢false (sym o ∙ shut));
          stored = λ more. absurd (omega arith);
          opens = λ was o. absurd (true≢false (sym o ∙ shut));
        }

  -- what may open has the mark, and there is room
  marked : may_open r sent ≡ true → (sent.opening ≡ true) × (data_in_ready r ≡ true)
  marked may =
      let two = sent.opening && r.commands.receive_word in
      let three = two && not (has_error r) in
      (left_of sent.opening r.commands.receive_word (left_of two (not (has_error r)) (left_of three (data_in_ready r) may)), right_of three (data_in_ready r) may)

  pub answers : open_with_another r from ≡ false → Answers r from sent (answered_by r from sent)
  answers own =
      either P (open_with_another r from) (λ e. absurd (true≢false (sym e ∙ own)))
      (λ e. either P (reopening r sent) (λ e. breaking)
      (λ goes_on. either P (not r.end.opened)
      (λ shut. either P (may_open r sent) (λ may. opening (not-true r.end.opened shut) (marked may).0 (marked may).1) (λ e. refusing (not-true r.end.opened shut)))
      (λ e.
      let open_now = not-false r.end.opened e in
      by_rule open_now (by sent.opening (λ first. absurd (true≢false (sym (ap₂ ◌&&◌ open_now first) ∙ goes_on))) (λ later. later)))))
