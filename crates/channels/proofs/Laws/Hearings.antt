-- What T makes of an answer, as to its channel: which answer opens it, by which it stays open, and what it counts.
-- Assumes nothing.
use Rattle.std.specs.Prelude.{Bool, true, false, not, ◌&&◌, ◌⊎◌, ◌≡◌, refl, ℕ, ◌+◌, eqb}
use Rattle.std.proofs.Common.{true≢false, inl, inr, sym, ◌∙◌, arith, eq-eqb, eqb-true}
use Rattle.std.proofs.lemmas.Bool.{false≢true, eqb-false}
use Rattle.std.proofs.Math.Path.{subst⁻¹}
use Rattle.laws.specs.Pick.{either, here, past}
use Rattle.laws.specs.Laws.Both.{both, left_of}
use Rattle.sending.specs.Chart.{chart_of}
use Rattle.sending.specs.declared.chart.Entry.{Entry}
use Rattle.sending.specs.Choice.{acts_on, chosen, chosen_open, code_of, destination_of, is_opening, wants_on, all_sent, may_open, sent_by}
use Rattle.sending.specs.Events.{restarted, word_accepted}
use Rattle.sending.specs.Hearing.{acknowledged, after_sending, followed, heard, heard_closed, heard_open, showing}
use Rattle.sending.specs.declared.choice.Choice.{Choice}
use Rattle.transmitter.specs.Side.{has_error}
use Rattle.silos.specs.Silo.{is_empty, oldest}
use Rattle.transmitter.specs.declared.side.Transmitter.{Transmitter}
use Rattle.words.specs.Lines.{answered}
use Rattle.words.specs.declared.lines.Answer.{Answer}

-- the answer that tells of a good verdict on a due CRC
abbrev pub restarting : Answer
restarting = record { code = 3; rejects = false; truncates = false; restarts = true; truncated = false }

-- ---- an open T

abbrev Still : Transmitter → Transmitter → Type 0
Still t after = after.end.opened ≡ true → (t.end.opened ≡ true) × (after.channel.destination ≡ t.channel.destination)

still_same : (t : Transmitter) → Still t t
still_same t e = (e, refl)

module _ (t : Transmitter) where
  still_accepted : (x : Transmitter) → Still t x → Still t (word_accepted x)
  still_accepted x h = either (Still t) x.commands.start_transmission (λ e. h) (λ e. h)

  still_acknowledged : (choice : Choice) (restarts : Bool) → Still t (acknowledged t choice restarts)
  still_acknowledged Choice.Idle restarts = still_same t
  still_acknowledged Choice.Opening restarts = still_same t
  still_acknowledged Choice.Stopped restarts = still_same t
  still_acknowledged Choice.LastCrc restarts = still_same t
  still_acknowledged Choice.DueCrc restarts = still_same t
  still_acknowledged Choice.Word restarts =
      either (Still t) restarts (λ e. still_accepted (restarted t) (still_same t)) (λ e. still_accepted t (still_same t))
  still_acknowledged Choice.Null restarts = still_same t

  still_followed : (choice : Choice) (answer : Answer) (entry : Entry) → Still t (followed t choice answer entry)
  still_followed choice answer Entry.Close = λ o. absurd (false≢true o)
  still_followed choice answer Entry.CloseWithError = λ o. absurd (false≢true o)
  still_followed choice answer Entry.CloseWithSuccess =
      either (Still t) answer.truncated (λ e o. absurd (false≢true o)) (λ e o. absurd (false≢true o))
  still_followed choice answer Entry.Stay =
      either (Still t) (eqb answer.code 3) (λ e. still_acknowledged choice answer.restarts) (λ e. still_same t)

  pub still_open : (choice : Choice) (answer : Answer) → Still t (heard_open t choice answer)
  still_open choice answer =
      either (Still t) answer.rejects (λ e o. absurd (false≢true o))
      (λ e. either (Still t) answer.truncates (λ e. still_same t) (λ e. still_followed choice answer (chart_of (code_of choice) answer.code)))

  -- 01 leaves the count
  abbrev Counted : Transmitter → Type 0
  Counted x = x.end.block ≡ t.end.block

  not_three : (n : ℕ) → n ≡ 1 → eqb n 3 ≡ true → ⊥
  not_three n one three = omega (arith, one, eqb-true n 3 three)

  count_followed : (choice : Choice) (answer : Answer) → answer.code ≡ 1 → (entry : Entry) → Counted (followed t choice answer entry)
  count_followed choice answer one Entry.Close = refl
  count_followed choice answer one Entry.CloseWithError = refl
  count_followed choice answer one Entry.CloseWithSuccess = either Counted answer.truncated (λ e. refl) (λ e. refl)
  count_followed choice answer one Entry.Stay =
      either Counted (eqb answer.code 3) (λ three. absurd (not_three answer.code one three)) (λ e. refl)

  count_stays : (choice : Choice) (answer : Answer) → answer.code ≡ 1 → Counted (heard_open t choice answer)
  count_stays choice answer one =
      either Counted answer.rejects (λ e. refl)
      (λ e. either Counted answer.truncates (λ e. refl) (λ e. count_followed choice answer one (chart_of (code_of choice) answer.code)))

  count_closed : (answer : Answer) → answer.code ≡ 1 → Counted (heard_closed t answer.code)
  count_closed answer one =
      either Counted (eqb answer.code 3) (λ three. absurd (not_three answer.code one three))
      (λ e. either Counted (eqb answer.code 0) (λ e. either Counted t.modes.retry_if_busy (λ e. refl) (λ e. refl)) (λ e. refl))

-- ---- what T has chosen

module _ (t : Transmitter) (answer : Answer) where
  -- a word is counted, and 128 were not yet; a due CRC comes after 128, and a good verdict restarts the count
  abbrev pub IsWord : Choice → Type 0
  IsWord choice =
      (t.end.block ≡ 128 → ⊥) × (answer ≡ answered 3 → (heard t choice answer).end.block ≡ t.end.block + 1)
      × ((sent_by t choice).word ≡ oldest t.end.silo)

  abbrev pub IsDue : Choice → Type 0
  IsDue choice =
      ((t.channel.awaiting ≡ true → t.end.block ≡ 128) → t.end.block ≡ 128) × (answer ≡ restarting → (heard t choice answer).end.block ≡ 0)

  pub record Hears (choice : Choice) : Type 0 where
    -- an opening word is a closed T's, and all else an open T's
    pub closed : is_opening choice ≡ true → t.end.opened ≡ false
    pub opened : acts_on choice ≡ true → is_opening choice ≡ false → t.end.opened ≡ true
    -- where T is open after the slice, it is so to the receiver that the slice went to
    pub latched : (heard t choice answer).end.opened ≡ true → (heard t choice answer).channel.destination ≡ destination_of t
    -- 11 to A 10 leaves it open, and 00 closed
    pub stays : code_of choice ≡ 2 → answer ≡ answered 3 → (heard t choice answer).end.opened ≡ true
    pub shuts : acts_on choice ≡ true → answer ≡ answered 0 → (heard t choice answer).end.opened ≡ false
    -- its count
    pub kept : answer.code ≡ 1 → (heard t choice answer).end.block ≡ t.end.block
    pub first : is_opening choice ≡ true → (answer ≡ answered 3 → (heard t choice answer).end.block ≡ 1) × ((sent_by t choice).word ≡ oldest t.end.silo)
    pub later : code_of choice ≡ 2 → is_opening choice ≡ false → IsWord choice ⊎ IsDue choice

  -- ---- open

  module _ (o : t.end.opened ≡ true) where
    accepted : (choice : Choice) → is_opening choice ≡ false → code_of choice ≡ 2 → (heard t choice (answered 3)).end.opened ≡ true
    accepted Choice.Idle later e = absurd (omega (arith, e))
    accepted Choice.Opening later e = absurd (true≢false later)
    accepted Choice.Stopped later e = absurd (omega (arith, e))
    accepted Choice.LastCrc later e = absurd (omega (arith, e))
    accepted Choice.DueCrc later e = o
    accepted Choice.Word later e = either (λ (x : Transmitter). x.end.opened ≡ true) t.commands.start_transmission (λ e. o) (λ e. o)
    accepted Choice.Null later e = absurd (omega (arith, e))

    refused : (choice : Choice) → is_opening choice ≡ false → acts_on choice ≡ true → (heard t choice (answered 0)).end.opened ≡ false
    refused Choice.Idle later e = absurd (false≢true e)
    refused Choice.Opening later e = absurd (true≢false later)
    refused Choice.Stopped later e = refl
    refused Choice.LastCrc later e = refl
    refused Choice.DueCrc later e = refl
    refused Choice.Word later e = refl
    refused Choice.Null later e = refl

    hears_open : (choice : Choice) → is_opening choice ≡ false → Still t (heard t choice answer)
        → (answer.code ≡ 1 → (heard t choice answer).end.block ≡ t.end.block) → (code_of choice ≡ 2 → IsWord choice ⊎ IsDue choice) → Hears choice
    hears_open choice later still kept counts =
        record {
          closed = λ e. absurd (true≢false (sym e ∙ later));
          opened = λ e n. o;
          latched = λ e. (still e).1 ∙ here _ o refl;
          stays = λ code e. subst⁻¹ (λ (a : Answer). (heard t choice a).end.opened ≡ true) e (accepted choice later code);
          shuts = λ acts e. subst⁻¹ (λ (a : Answer). (heard t choice a).end.opened ≡ false) e (refused choice later acts);
          kept = kept;
          first = λ e. absurd (true≢false (sym e ∙ later));
          later = λ code e. counts code;
        }

    abbrev before : Choice → Transmitter
    before choice = showing (after_sending t choice) (code_of choice) answer.code

    -- what has another code
    not_word : (choice : Choice) (n : ℕ) → code_of choice ≡ n → eqb n 2 ≡ false → code_of choice ≡ 2 → IsWord choice ⊎ IsDue choice
    not_word choice n e other code = absurd (eqb-false n 2 other (sym e ∙ code))

    word_counts : (t.end.block ≡ 128 → ⊥) → IsWord Choice.Word
    word_counts few = (
      few,
      λ e.
          subst⁻¹ (λ (a : Answer). (heard t Choice.Word a).end.block ≡ t.end.block + 1) e
          (either (λ (x : Transmitter). x.end.block ≡ t.end.block + 1) t.commands.start_transmission (λ e. refl) (λ e. refl)),
      refl,
    )

    due_counts : ((t.channel.awaiting ≡ true → t.end.block ≡ 128) → t.end.block ≡ 128) → IsDue Choice.DueCrc
    due_counts why = (why, λ e. subst⁻¹ (λ (a : Answer). (heard t Choice.DueCrc a).end.block ≡ 0) e refl)

    hears_chosen : Hears (chosen_open t)
    hears_chosen =
        let stopped = hears_open Choice.Stopped refl (still_open (before Choice.Stopped) Choice.Stopped answer) (count_stays (before Choice.Stopped) Choice.Stopped answer)
        (not_word Choice.Stopped 0 refl refl) in
        let last = hears_open Choice.LastCrc refl (still_open (before Choice.LastCrc) Choice.LastCrc answer) (count_stays (before Choice.LastCrc) Choice.LastCrc answer)
        (not_word Choice.LastCrc 3 refl refl) in
        let due : IsDue Choice.DueCrc → Hears Choice.DueCrc = λ why.
        hears_open Choice.DueCrc refl (still_open (before Choice.DueCrc) Choice.DueCrc answer) (count_stays (before Choice.DueCrc) Choice.DueCrc answer) (λ code. inr why) in
        let word : IsWord Choice.Word → Hears Choice.Word = λ why.
        hears_open Choice.Word refl (still_open (before Choice.Word) Choice.Word answer) (count_stays (before Choice.Word) Choice.Word answer) (λ code. inl why) in
        let null = hears_open Choice.Null refl (still_open (before Choice.Null) Choice.Null answer) (count_stays (before Choice.Null) Choice.Null answer)
        (not_word Choice.Null 1 refl refl) in
        either Hears (has_error t) (λ e. stopped)
        (λ e. either Hears t.channel.ending (λ e. last)
        (λ e. either Hears (t.channel.awaiting && wants_on t) (λ e. due (due_counts (λ awaited. awaited (left_of t.channel.awaiting (wants_on t) e))))
        (λ e. either Hears (all_sent t) (λ e. last)
        (λ e. either Hears (eqb t.end.block 128 && wants_on t)
        (λ e. due (due_counts (λ awaited. eqb-true t.end.block 128 (left_of (eqb t.end.block 128) (wants_on t) e))))
        (λ few. either Hears (wants_on t && not (is_empty t.end.silo))
        (λ e. word (word_counts (λ full. true≢false
        (sym (both (eq-eqb t.end.block 128 full) (left_of (wants_on t) (not (is_empty t.end.silo)) e)) ∙ few))))
        (λ e. null))))))

  -- ---- closed

  module _ (c : t.end.opened ≡ false) where
    abbrev word : Transmitter
    word = showing t 2 answer.code

    -- it opens by 11 alone
    abbrev Latched : Transmitter → Type 0
    Latched x = x.end.opened ≡ true → x.channel.destination ≡ t.modes.destination

    opened_to : Latched (heard_closed word answer.code)
    opened_to =
        let never : t.end.opened ≡ true → t.channel.destination ≡ t.modes.destination = λ o. absurd (true≢false (sym o ∙ c)) in
        either Latched (eqb answer.code 3) (λ e. either Latched t.commands.start_transmission (λ e o. refl) (λ e o. refl))
        (λ e. either Latched (eqb answer.code 0) (λ e. either Latched t.modes.retry_if_busy (λ e. never) (λ e. never)) (λ e. never))

    hears_opening : Hears Choice.Opening
    hears_opening =
        record {
          closed = λ e. c;
          opened = λ e n. absurd (true≢false n);
          latched = λ o. opened_to o ∙ past _ c refl;
          stays = λ code e.
              subst⁻¹ (λ (a : Answer). (heard t Choice.Opening a).end.opened ≡ true) e
              (either (λ (x : Transmitter). x.end.opened ≡ true) t.commands.start_transmission (λ e. refl) (λ e. refl));
          shuts = λ acts e.
              subst⁻¹ (λ (a : Answer). (heard t Choice.Opening a).end.opened ≡ false) e
              (either (λ (x : Transmitter). x.end.opened ≡ false) t.modes.retry_if_busy (λ e. c) (λ e. c));
          kept = count_closed word answer;
          first = λ e. (
            λ three.
                subst⁻¹ (λ (a : Answer). (heard t Choice.Opening a).end.block ≡ 1) three
                (either (λ (x : Transmitter). x.end.block ≡ 1) t.commands.start_transmission (λ e. refl) (λ e. refl)),
            refl,
          );
          later = λ code n. absurd (true≢false n);
        }

    hears_idle : Hears Choice.Idle
    hears_idle =
        record {
          closed = λ e. c;
          opened = λ e n. absurd (false≢true e);
          latched = λ o. absurd (true≢false (sym o ∙ c));
          stays = λ code e. absurd (omega (arith, code));
          shuts = λ acts e. c;
          kept = λ one. refl;
          first = λ e. absurd (false≢true e);
          later = λ code. absurd (omega (arith, code));
        }

  pub hears : Hears (chosen t)
  hears =
      either Hears t.end.opened hears_chosen (λ c. either Hears (may_open t) (λ e. hears_opening c) (λ e. hears_idle c))
