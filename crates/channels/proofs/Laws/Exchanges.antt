-- What a slice between T and R does to the channel between them.
-- Assumes nothing.
use Rattle.std.specs.Prelude.{Bool, true, false, not, ◌&&◌, [], ◌∷◌, ◌++◌, ◌⊎◌, ◌≡◌, refl, ℕ, ◌+◌, ◌<◌, eqb}
use Rattle.std.proofs.Common.{true≢false, inl, inr, ⊎_elim, ap, sym, ◌∙◌, arith, eqb-true}
use Rattle.std.proofs.lemmas.Bool.{false≢true, not-false}
use Rattle.std.proofs.Math.Path.{subst⁻¹}
use Rattle.std.specs.Int.Bits.{bit_xor}
use Rattle.answering.specs.Choice.{open_with_another}
use Rattle.answering.specs.Rules.{Answered, answered_by}
use Rattle.answering.proofs.Laws.Keeps.{later_untouched}
use Rattle.laws.specs.Pick.{by, either, here}
use Rattle.receiver.specs.declared.side.Receiver.{Receiver}
use Rattle.sending.specs.Choice.{acts_on, chosen, code_of, destination_of, is_opening, sent_by}
use Rattle.sending.specs.Hearing.{heard}
use Rattle.sending.specs.declared.choice.Choice.{Choice}
use Rattle.silos.specs.Silo.{Sized, count, words}
use Rattle.transmitter.specs.declared.side.Transmitter.{Transmitter}
use Rattle.words.specs.Codes.{no_codes}
use Rattle.words.specs.Lines.{answered, damaged}
use Rattle.words.specs.Laws.LineLaws.{code_stays, mark_stays}
use Rattle.words.specs.declared.codes.Codes.{Codes}
use Rattle.words.specs.declared.lines.Answer.{Answer}
use Rattle.words.specs.declared.lines.Sent.{Sent}
use Rattle.slices.specs.Slice.{ended, exchanged, sent_alone}
use Rattle.slices.specs.Laws.Keeps.{as_alone}
use Rattle.slices.specs.declared.Alone.{Alone}
use Rattle.slices.specs.declared.Pair.{Pair}
use Rattle.channels.specs.Statement.{FromSilo, Passed}
use Rattle.channels.proofs.Laws.Answers.{Answers, Counts, Opens, Restarts, StaysOpen, Takes, Waits, answers}
use Rattle.channels.proofs.Laws.Hearings.{Hears, IsDue, IsWord, hears}

-- what is shown of an open T that awaits a verdict, and of the counts of T and R that are open with each other
abbrev pub Awaited : Transmitter → Type 0
Awaited t = t.channel.awaiting ≡ true → t.end.block ≡ 128

abbrev pub Evenly : Transmitter → Receiver → ℕ → Type 0
Evenly t r from = t.end.opened ≡ true → r.end.opened ≡ true → r.modes.sender ≡ from → t.end.block ≡ r.end.block

-- R has taken T's word: both are open, R with T
pub record Took (t : Transmitter) (r : Receiver) (from mask : ℕ) (p : Pair) : Type 0 where
  pub opened : p.transmitter.end.opened ≡ true
  pub opened_there : p.receiver.end.opened ≡ true
  pub sender : p.receiver.modes.sender ≡ from
  pub passed : Passed t mask r p.receiver
  pub word : Awaited t → Evenly t r from → FromSilo t

pub record Exchanges (t : Transmitter) (r : Receiver) (from mask : ℕ) (p : Pair) : Type 0 where
  -- T goes to the receiver that the slice went to
  pub latched : p.transmitter.end.opened ≡ true → p.transmitter.channel.destination ≡ destination_of t
  -- R is open as it was, or with T
  pub partner : p.receiver.end.opened ≡ true → ((r.end.opened ≡ true) × (p.receiver.modes.sender ≡ r.modes.sender)) ⊎ (p.receiver.modes.sender ≡ from)
  -- both are open, R with T: so they were, or both open
  pub joined : p.transmitter.end.opened ≡ true → p.receiver.end.opened ≡ true → p.receiver.modes.sender ≡ from
      → ((t.end.opened ≡ true) × (r.end.opened ≡ true) × (r.modes.sender ≡ from)) ⊎ ((t.end.opened ≡ false) × (r.end.opened ≡ false))
  -- where both had counted as many words, so they have
  pub counts : Awaited t → Evenly t r from → p.transmitter.end.opened ≡ true → p.receiver.end.opened ≡ true → p.receiver.modes.sender ≡ from
      → p.transmitter.end.block ≡ p.receiver.end.block
  -- what is stored is T's word
  pub stored : count r.end.silo < count p.receiver.end.silo → Took t r from mask p
  -- R opens by a word of T's, which opens too
  pub opens : r.end.opened ≡ false → p.receiver.end.opened ≡ true → (t.end.opened ≡ false) × Took t r from mask p
  -- A 11 is answered 11 by an R that was open with T
  pub succeeds : p.codes.a ≡ 3 → p.codes.b ≡ 3 → (t.end.opened ≡ true) × (r.end.opened ≡ true) × (r.modes.sender ≡ from)

-- open, and not with another
own_sender : (r : Receiver) (from : ℕ) → open_with_another r from ≡ false → r.end.opened ≡ true → r.modes.sender ≡ from
own_sender r from own open_now =
    eqb-true r.modes.sender from (not-false _ (ap (λ (b : Bool). b && not (eqb r.modes.sender from)) (sym open_now) ∙ own))

-- whatever becomes of the parity line
reaching_word : (s : Sent) (mask : ℕ) (parity : Bool) → (damaged s mask parity).word ≡ bit_xor s.word mask
reaching_word s mask parity = either (λ (x : Sent). x.word ≡ bit_xor s.word mask) parity (λ e. refl) (λ e. refl)

-- an opening word is sent with A 10
opening_code : (choice : Choice) → is_opening choice ≡ true → code_of choice ≡ 2
opening_code Choice.Idle e = absurd (false≢true e)
opening_code Choice.Opening e = refl
opening_code Choice.Stopped e = absurd (false≢true e)
opening_code Choice.LastCrc e = absurd (false≢true e)
opening_code Choice.DueCrc e = refl
opening_code Choice.Word e = refl
opening_code Choice.Null e = absurd (false≢true e)

-- what has passed, of any receiver after it
passed_so : (t : Transmitter) (mask : ℕ) (r after : Receiver) → code_of (chosen t) ≡ 2
    → words after.end.silo ≡ words r.end.silo ++ (bit_xor (sent_by t (chosen t)).word mask ∷ []) → Passed t mask r after
passed_so t mask r after code word = record { code = code; word = word }

-- T alone: where it acts it gets 00, and is closed after it
pub alone_shuts : (t : Transmitter) → (sent_alone t).transmitter.end.opened ≡ true → (t.end.opened ≡ true) × ((sent_alone t).transmitter ≡ t)
alone_shuts t =
    either (λ (a : Alone). a.transmitter.end.opened ≡ true → (t.end.opened ≡ true) × (a.transmitter ≡ t)) (acts_on (chosen t))
    (λ acts o. absurd (true≢false (sym o ∙ (hears t (answered 0)).shuts acts refl))) (λ idle o. (o, refl))

pub alone_unanswered : (t : Transmitter) → (sent_alone t).codes.b ≡ 0
alone_unanswered t = either (λ (a : Alone). a.codes.b ≡ 0) (acts_on (chosen t)) (λ acts. refl) (λ idle. refl)

module _ (t : Transmitter) (r : Receiver) (sized : Sized 64 r.end.silo) (from mask : ℕ) (parity : Bool) where
  -- nothing passes between them
  apart : (after : Transmitter) → (after.end.opened ≡ true → (t.end.opened ≡ true) × (after ≡ t)) → (codes : Codes)
      → codes.b ≡ 0 → Exchanges t r from mask (record { transmitter = after; receiver = r; codes = codes })
  apart after same codes none =
      record {
        latched = λ o. ap (λ (x : Transmitter). x.channel.destination) (same o).1 ∙ here _ (same o).0 refl;
        partner = λ o. inl (o, refl);
        joined = λ o there with. inl ((same o).0, there, with);
        counts = λ awaited even o there with. ap (λ (x : Transmitter). x.end.block) (same o).1 ∙ even (same o).0 there with;
        stored = λ more. absurd (omega arith);
        opens = λ shut o. absurd (true≢false (sym o ∙ shut));
        succeeds = λ a b. absurd (omega (arith, none, b));
      }

  abbrev choice : Choice
  choice = chosen t

  abbrev reaching : Sent
  reaching = damaged (sent_by t choice) mask parity

  module _ (own : open_with_another r from ≡ false) (acts : acts_on choice ≡ true) where
    abbrev a : Answered
    a = answered_by r from reaching

    heard_so : Hears t a.answer choice
    heard_so = hears t a.answer

    answered_so : Answers r from reaching a
    answered_so = answers r sized from reaching own

    mark : reaching.opening ≡ is_opening choice
    mark = mark_stays (sent_by t choice) mask parity

    -- an opening word is a closed T's, and all else an open one's
    closed_so : reaching.opening ≡ true → t.end.opened ≡ false
    closed_so first = heard_so.closed (sym mark ∙ first)

    open_so : reaching.opening ≡ false → t.end.opened ≡ true
    open_so later = heard_so.opened acts (sym mark ∙ later)

    -- what is stored has A 10
    stored_code : (reaching.opening ≡ false → reaching.code ≡ 2) → code_of choice ≡ 2
    stored_code word =
        by (is_opening choice) (opening_code choice) (λ later. sym (code_stays (sent_by t choice) mask parity) ∙ word (mark ∙ later))

    -- R stays open, and both had counted as many words
    module _ (awaited : Awaited t) (even : t.end.block ≡ r.end.block) (word : code_of choice ≡ 2)
        (later : is_opening choice ≡ false) where
      abbrev Even : Type 0
      Even = (heard t choice a.answer).end.block ≡ a.side.end.block

      both_count : Counts r a → Even
      both_count y =
          ⊎_elim (λ (x : IsWord t a.answer choice). x.1 y.0 ∙ ap (λ (n : ℕ). n + 1) even ∙ sym y.2)
          (λ (x : IsDue t a.answer choice). absurd (y.1 (sym even ∙ x.0 awaited))) (heard_so.later word later)

      counted_word_lem : Counts r a → FromSilo t
      counted_word_lem y =
          ⊎_elim (λ (x : IsWord t a.answer choice). x.2) (λ (x : IsDue t a.answer choice). absurd (y.1 (sym even ∙ x.0 awaited)))
          (heard_so.later word later)

      both_restart : Restarts r a → Even
      both_restart y =
          ⊎_elim (λ (x : IsWord t a.answer choice). absurd (x.0 (even ∙ y.1))) (λ (x : IsDue t a.answer choice). x.1 y.0 ∙ sym y.2)
          (heard_so.later word later)

    took : Takes r reaching a → Took t r from mask (ended t choice a)
    took s =
        let code = stored_code s.code in
        record {
          opened = heard_so.stays code s.answer;
          opened_there = s.opened;
          sender = ⊎_elim (λ (x : StaysOpen r reaching a). x.1 ∙ own_sender r from own x.0) (λ (x : Opens r from reaching a). x.1) (answered_so.channel s.opened);
          passed =
              passed_so t mask r a.side code (s.word ∙ ap (λ (n : ℕ). words r.end.silo ++ (n ∷ [])) (reaching_word (sent_by t choice) mask parity));
          word = λ awaited even.
              ⊎_elim
              (λ (x : StaysOpen r reaching a).
              let same = even (open_so x.2) x.0 (own_sender r from own x.0) in
              ⊎_elim (λ (y : Waits r a). absurd (omega (arith, y.0, ap (λ (z : Answer). z.code) s.answer)))
              (λ (y : (reaching.code ≡ 2) × (Counts r a ⊎ Restarts r a)).
              ⊎_elim (counted_word_lem awaited same code (sym mark ∙ x.2))
              (λ (z : Restarts r a). absurd (true≢false (sym (ap (λ (n : Answer). n.restarts) z.0) ∙ ap (λ (n : Answer). n.restarts) s.answer))) y.1)
              x.3)
              (λ (x : Opens r from reaching a). (heard_so.first (sym mark ∙ x.2)).1) (answered_so.channel s.opened);
        }

    passing : Exchanges t r from mask (ended t choice a)
    passing =
        record {
          latched = heard_so.latched;
          partner = λ o. ⊎_elim (λ (s : StaysOpen r reaching a). inl (s.0, s.1)) (λ (s : Opens r from reaching a). inr s.1) (answered_so.channel o);
          joined = λ o there with.
              ⊎_elim (λ (s : StaysOpen r reaching a). inl (open_so s.2, s.0, own_sender r from own s.0)) (λ (s : Opens r from reaching a). inr (closed_so s.2, s.0))
              (answered_so.channel there);
          counts = λ awaited even o there with.
              ⊎_elim
              (λ (s : StaysOpen r reaching a).
              let same = even (open_so s.2) s.0 (own_sender r from own s.0) in
              let code : reaching.code ≡ 2 → code_of choice ≡ 2 = λ e. sym (code_stays (sent_by t choice) mask parity) ∙ e in
              let later = sym mark ∙ s.2 in
              ⊎_elim (λ (y : Waits r a). heard_so.kept y.0 ∙ same ∙ sym y.1)
              (λ (y : (reaching.code ≡ 2) × (Counts r a ⊎ Restarts r a)).
              ⊎_elim (both_count awaited same (code y.0) later) (both_restart awaited same (code y.0) later) y.1)
              s.3)
              (λ (s : Opens r from reaching a). (heard_so.first (sym mark ∙ s.2)).0 s.3 ∙ sym s.4) (answered_so.channel there);
          stored = λ more. took (answered_so.stored more);
          opens = λ shut o. (
            ⊎_elim (λ (x : StaysOpen r reaching a). absurd (true≢false (sym x.0 ∙ shut))) (λ (x : Opens r from reaching a). closed_so x.2) (answered_so.channel o),
            took (answered_so.opens shut o),
          );
          succeeds = λ last good.
              let later : is_opening choice ≡ false = by (is_opening choice) (λ first. absurd (omega (arith, opening_code choice first, last))) (λ e. e) in
              let there : r.end.opened ≡ true =
              by r.end.opened (λ o. o)
              (λ shut. absurd (omega (arith, good, ap (λ (x : Answered). x.answer.code) (later_untouched r from reaching shut (mark ∙ later))))) in
              (open_so (mark ∙ later), there, own_sender r from own there);
        }

  pub exchanges : Exchanges t r from mask (exchanged t r from mask parity)
  exchanges =
      by (open_with_another r from)
      (λ another. subst⁻¹ (Exchanges t r from mask) (as_alone t r from mask parity another) (apart (sent_alone t).transmitter (alone_shuts t) (sent_alone t).codes (alone_unanswered t)))
      (λ own. either (Exchanges t r from mask) (acts_on choice) (passing own) (λ idle. apart t (λ o. (o, refl)) no_codes refl))
