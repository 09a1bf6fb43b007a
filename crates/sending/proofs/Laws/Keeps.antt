-- A slice leaves a transmitter within the values its numbers may take, and what it sends has a code.
-- Assumes nothing.
use Rattle.std.specs.Prelude.{Bool, true, false, not, ◌&&◌, ◌≡◌, refl, ℕ, ◌+◌, ◌<◌, ◌≤◌, eqb}
use Rattle.std.proofs.Common.{true≢false, sym, ◌∙◌, arith, eqb-true, lit<, lit≤}
use Rattle.std.proofs.lemmas.Bool.{false≢true, eqb-false}
use Rattle.std.proofs.Math.Path.{subst, subst⁻¹}
use Rattle.ends.specs.Ends as E
use Rattle.ends.specs.Laws.EndKept.{silo_kept, shown_kept, restart_kept, count_kept, opening_kept, raised_fits}
use Rattle.laws.specs.Pick.{either}
use Rattle.laws.specs.Laws.Both.{left_of}
use Rattle.silos.specs.Silo.{is_empty, oldest}
use Rattle.silos.specs.Laws.Laws.{sized_taken}
use Rattle.transmitter.specs.Fields.{with_awaiting}
use Rattle.transmitter.specs.Groups.{with_channel}
use Rattle.transmitter.specs.Side.{Within, has_error}
use Rattle.transmitter.specs.Laws.Keeps.{settles}
use Rattle.transmitter.specs.declared.side.Transmitter.{Transmitter}
use Rattle.words.specs.declared.lines.Answer.{Answer}
use Rattle.words.specs.Laws.CodeLaws.{coded_none, coded_shown}
use Rattle.sending.specs.Chart.{chart_of}
use Rattle.sending.specs.Choice.{wants_on, all_sent, may_open, chosen, code_of}
use Rattle.sending.specs.Events.{restarted, word_accepted, opening}
use Rattle.sending.specs.Hearing.{ending_now, after_sending, showing, finished, acknowledged, followed, heard_open, heard_closed, heard_acting, heard}
use Rattle.sending.specs.declared.chart.Entry.{Entry}
use Rattle.sending.specs.declared.choice.Choice.{Choice}

-- ---- sending

-- the code A is a code
pub code_lt : (choice : Choice) → code_of choice < 4
code_lt Choice.Idle = lit< tt
code_lt Choice.Opening = lit< tt
code_lt Choice.Stopped = lit< tt
code_lt Choice.LastCrc = lit< tt
code_lt Choice.DueCrc = lit< tt
code_lt Choice.Word = lit< tt
code_lt Choice.Null = lit< tt

-- T is at most ending, or awaiting a verdict
after : (P : Transmitter → Type 0) (t : Transmitter) (choice : Choice) → P t → (choice ≡ Choice.LastCrc → P (ending_now t))
    → (choice ≡ Choice.DueCrc → P (with_channel t (with_awaiting t.channel true))) → P (after_sending t choice)
after P t Choice.Idle same last due = same
after P t Choice.Opening same last due = same
after P t Choice.Stopped same last due = same
after P t Choice.LastCrc same last due = last refl
after P t Choice.DueCrc same last due = due refl
after P t Choice.Word same last due = same
after P t Choice.Null same last due = same

pub block_sent : (t : Transmitter) (choice : Choice) → (after_sending t choice).end.block ≡ t.end.block
block_sent t choice = after (λ (x : Transmitter). x.end.block ≡ t.end.block) t choice refl (λ e. refl) (λ e. refl)

-- ---- the answer

-- the numbers, that T is ending only while open, and that a verdict is awaited only at 128: the period's mark is settled last
abbrev Marks : Bool → Bool → Bool → ℕ → Type 0
Marks ending opened awaiting block = (ending ≡ true → opened ≡ true) × (awaiting ≡ true → block ≡ 128)

abbrev Numbers : Transmitter → Type 0
Numbers t = E.Within t.end × ((t.modes.destination < 32) × (t.channel.destination < 32))

abbrev Kept : Transmitter → Type 0
Kept t = Numbers t × Marks t.channel.ending t.end.opened t.channel.awaiting t.end.block

none_awaited : {block : ℕ} (awaiting : Bool) → awaiting ≡ false → awaiting ≡ true → block ≡ 128
none_awaited awaiting none some = absurd (true≢false (sym some ∙ none))

-- closed, and ending while open
shut : (t : Transmitter) → Kept t → Numbers t × Marks false false t.channel.awaiting t.end.block
shut t h = (h.0, (λ e. e, h.1.1))

ends : (t : Transmitter) → Kept t → t.end.opened ≡ true → Numbers t × Marks true t.end.opened t.channel.awaiting t.end.block
ends t h open_now = (h.0, (λ e. open_now, h.1.1))

-- the counts restart, and no verdict is awaited
restarts_kept : (t : Transmitter) → Kept t → Kept (restarted t)
restarts_kept t h = ((restart_kept h.0.0, h.0.1), (h.1.0, none_awaited false refl))

-- a choice that can have been made, with the channel open or not, so many words since the last CRC, and a verdict awaited or not: all
-- but an opening are an open T's, a CRC is due at 128, and a word is not sent where a CRC is due or a verdict awaited
Made : Bool → ℕ → Bool → Choice → Type 0
Made opened block awaiting Choice.Idle = Unit {0}
Made opened block awaiting Choice.Opening = Unit {0}
Made opened block awaiting Choice.Stopped = opened ≡ true
Made opened block awaiting Choice.LastCrc = opened ≡ true
Made opened block awaiting Choice.DueCrc = (opened ≡ true) × (block ≡ 128)
Made opened block awaiting Choice.Word = (opened ≡ true) × ((block < 128) × (awaiting ≡ false))
Made opened block awaiting Choice.Null = opened ≡ true

abbrev MadeBy : Transmitter → Choice → Type 0
MadeBy t choice = Made t.end.opened t.end.block t.channel.awaiting choice

-- a word is counted only below 128
accepted : (t : Transmitter) → Kept t → t.end.block < 128 → t.channel.awaiting ≡ false → Kept (word_accepted t)
accepted t h room none =
    let end = count_kept (silo_kept h.0.0 (sized_taken 64 (lit≤ tt) t.end.silo h.0.0.silo)) (oldest t.end.silo) room in
    let marks : Marks t.channel.ending t.end.opened t.channel.awaiting (t.end.block + 1) = (h.1.0, none_awaited t.channel.awaiting none) in
    either Kept t.commands.start_transmission (λ e. ((end, h.0.1), marks)) (λ e. ((shown_kept end coded_none, h.0.1), marks))

acknowledges : (t : Transmitter) (choice : Choice) (restarts : Bool) → Kept t → MadeBy t choice → Kept (acknowledged t choice restarts)
unfolding Made
acknowledges t Choice.Idle restarts h m = h
acknowledges t Choice.Opening restarts h m = h
acknowledges t Choice.Stopped restarts h m = h
acknowledges t Choice.LastCrc restarts h m = h
acknowledges t Choice.DueCrc restarts h m = restarts_kept t h
acknowledges t Choice.Word restarts h m =
    either Kept restarts (λ e. accepted (restarted t) (restarts_kept t h) (lit< tt) refl) (λ e. accepted t h m.1.0 m.1.1)
acknowledges t Choice.Null restarts h m = h

finishes : (t : Transmitter) (truncated : Bool) → Kept t → Kept (finished t truncated)
finishes t truncated h =
    let end = shown_kept h.0.0 coded_none in
    either Kept truncated (λ e. ((end, h.0.1), (shut t h).1)) (λ e. ((end, h.0.1), (shut t h).1))

module _ (t : Transmitter) (choice : Choice) (answer : Answer) (h : Kept t) (m : MadeBy t choice) where
  follows : (entry : Entry) → Kept (followed t choice answer entry)
  follows Entry.Close = shut t h
  follows Entry.CloseWithError = shut t h
  follows Entry.CloseWithSuccess = finishes t answer.truncated h
  follows Entry.Stay = either Kept (eqb answer.code 3) (λ e. acknowledges t choice answer.restarts h m) (λ e. h)

  hears_open : t.end.opened ≡ true → Kept (heard_open t choice answer)
  hears_open open_now =
      either Kept answer.rejects (λ e. shut t h)
      (λ e. either Kept answer.truncates (λ e. ends t h open_now) (λ e. follows (chart_of (code_of choice) answer.code)))

hears_closed : (t : Transmitter) (b : ℕ) → Kept t → Kept (heard_closed t b)
hears_closed t b h =
    let fresh : Kept (opening t) =
    ((opening_kept h.0.0 (raised_fits t.end.serial), (h.0.1.0, h.0.1.0)), (λ e. refl, none_awaited false refl)) in
    either Kept (eqb b 3) (λ e. accepted (opening t) fresh (lit< tt) refl)
    (λ e. either Kept (eqb b 0) (λ e. either Kept t.modes.retry_if_busy (λ e. h) (λ e. h)) (λ e. h))

hears_acting : (t : Transmitter) (choice : Choice) (answer : Answer) → Kept t → MadeBy t choice → Kept (heard_acting t choice answer)
unfolding Made
hears_acting t Choice.Idle answer h m = h
hears_acting t Choice.Opening answer h m = hears_closed t answer.code h
hears_acting t Choice.Stopped answer h m = hears_open t Choice.Stopped answer h m m
hears_acting t Choice.LastCrc answer h m = hears_open t Choice.LastCrc answer h m m
hears_acting t Choice.DueCrc answer h m = hears_open t Choice.DueCrc answer h m m.0
hears_acting t Choice.Word answer h m = hears_open t Choice.Word answer h m m.0
hears_acting t Choice.Null answer h m = hears_open t Choice.Null answer h m m

-- what a choice of a CRC says
module _ (opened : Bool) (block : ℕ) (awaiting : Bool) (choice : Choice) (m : Made opened block awaiting choice) where
  last_open : choice ≡ Choice.LastCrc → opened ≡ true
  unfolding Made
  last_open e = subst (Made opened block awaiting) e m

  due_full : choice ≡ Choice.DueCrc → block ≡ 128
  unfolding Made
  due_full e = (subst (Made opened block awaiting) e m).1

  due_again : choice ≡ Choice.DueCrc → Made opened block true choice
  unfolding Made
  due_again e = subst⁻¹ (Made opened block true) e (subst (Made opened block awaiting) e m)

hears : (t : Transmitter) (choice : Choice) (answer : Answer) → Within t → MadeBy t choice → answer.code < 4 → Within (heard t choice answer)
hears t choice answer h m fits =
    let a = code_of choice in
    let b = answer.code in
    let o = t.end.opened in
    let n = t.end.block in
    let w = t.channel.awaiting in
    let codes = coded_shown t.end.shown (has_error t) a b h.end.shown (code_lt choice) fits in
    let numbers : Numbers (showing t a b) = (shown_kept h.end codes, (h.destination, h.latched)) in
    let kept : Kept (showing t a b) = (numbers, (h.ending, h.awaited)) in
    let sent = showing (after_sending t choice) a b in
    let last : choice ≡ Choice.LastCrc → Kept (showing (ending_now t) a b) = λ e. ends (showing t a b) kept (last_open o n w choice m e) in
    let due : choice ≡ Choice.DueCrc → Kept (showing (with_channel t (with_awaiting t.channel true)) a b) =
    λ e. (numbers, (h.ending, λ some. due_full o n w choice m e)) in
    let after_kept = after (λ (x : Transmitter). Kept (showing x a b)) t choice kept last due in
    let made = after (λ (x : Transmitter). MadeBy x choice) t choice m (λ e. m) (due_again o n w choice m) in
    let k = hears_acting sent choice answer after_kept made in
    settles (heard_acting sent choice answer) k.0.0 k.0.1.0 k.0.1.1 k.1.0 k.1.1

-- ---- what is chosen can be made

-- where a word is chosen no CRC is due
below : (block : ℕ) (wants some : Bool) → block ≤ 128 → (eqb block 128 && wants) ≡ false → (wants && some) ≡ true → block < 128
below block true some most due word = omega (arith, eqb-false block 128 (and_true (eqb block 128) due))
  where
    and_true : (b : Bool) → (b && true) ≡ false → b ≡ false
    and_true true e = e
    and_true false e = refl
below block false some most due word = absurd (let z : ◌≡◌ {A = ℕ} 0 1 = cc in omega arith)

-- and no verdict is awaited
unawaited : (awaiting wants some : Bool) → (awaiting && wants) ≡ false → (wants && some) ≡ true → awaiting ≡ false
unawaited true true some none word = none
unawaited true false some none word = absurd (false≢true word)
unawaited false wants some none word = refl

made_chosen : (t : Transmitter) → Within t → MadeBy t (chosen t)
unfolding Made
made_chosen t h =
    let M = MadeBy t in
    let some = not (is_empty t.end.silo) in
    either M t.end.opened
    (λ o. either M (has_error t) (λ e. o)
    (λ e. either M t.channel.ending (λ e. o)
    (λ e. either M (t.channel.awaiting && wants_on t) (λ e. (o, h.awaited (left_of t.channel.awaiting (wants_on t) e)))
    (λ none. either M (all_sent t) (λ e. o)
    (λ e. either M (eqb t.end.block 128 && wants_on t) (λ e. (o, eqb-true t.end.block 128 (left_of (eqb t.end.block 128) (wants_on t) e)))
    (λ due. either M (wants_on t && some)
    (λ word. (o, (below t.end.block (wants_on t) some h.end.block due word, unawaited t.channel.awaiting (wants_on t) some none word)))
    (λ e. o)))))))
    (λ e. either M (may_open t) (λ e. tt) (λ e. tt))

pub within_heard : (t : Transmitter) (answer : Answer) → Within t → answer.code < 4 → Within (heard t (chosen t) answer)
within_heard t answer h fits = hears t (chosen t) answer h (made_chosen t h) fits
