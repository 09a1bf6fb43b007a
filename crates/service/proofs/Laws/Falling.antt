-- A row of single moves at a side of a fitted unit ends: each that is done leaves a word more in a transmitter's silo or one fewer in a
-- receiver's, or sets an error bit, and with an error bit there is nothing to move.
-- Assumes nothing.
use Rattle.std.specs.Prelude.{Bool, true, false, not, ◌&&◌, ◌||◌, List, ◌⊎◌, ◌≡◌, refl, ℕ, ◌+◌, ◌-◌, ◌<◌, length, get_or, Result, Ok, Err, Option, Some, None}
use Rattle.std.proofs.Common.{true≢false, inl, inr, ⊎_elim, ap, sym, ◌∙◌, arith, ltb-true}
use Rattle.std.proofs.lemmas.Bool.{eqb-false, not-false, not-true}
use Rattle.cells.specs.Fitted.{Fitted, transmitter_of, receiver_of, transmitter_cells, receiver_cells}
use Rattle.cells.specs.Layout.{memory_length}
use Rattle.cells.specs.Laws.FittedLaws.{transmitter_within, receiver_within, still_fitted}
use Rattle.cells.specs.Laws.PutLaws.{transmitter_put, receiver_put, transmitter_part, receiver_part}
use Rattle.cells.specs.Laws.FrameLaws.{length_kept}
use Rattle.codec.specs.Receivers.{enc_receiver}
use Rattle.codec.specs.Transmitters.{enc_transmitter}
use Rattle.laws.specs.Bits.{bit}
use Rattle.laws.specs.Pick.{either, here, past}
use Rattle.laws.specs.Laws.Both.{left_of, right_of}
use Rattle.moves.specs.Moving.{transmitter_moved, receiver_moved}
use Rattle.moves.specs.Laws.Missing.{transmitter_short, receiver_short}
use Rattle.moves.specs.Laws.Nothing.{has_moved, transmitter_answers, receiver_answers, transmitter_stays, receiver_stays}
use Rattle.receiver.specs.Moves as R
use Rattle.receiver.specs.Side as RS
use Rattle.receiver.specs.declared.side.Receiver.{Receiver}
use Rattle.receiver.specs.Laws.Keeps as RK
use Rattle.silos.specs.Silo.{count, has_room, is_empty, put, taken}
use Rattle.silos.specs.declared.Silo.{Silo}
use Rattle.transmitter.specs.Moves as T
use Rattle.transmitter.specs.Side as TS
use Rattle.transmitter.specs.declared.side.Transmitter.{Transmitter}
use Rattle.transmitter.specs.Laws.Keeps as TK
use Rattle.words.specs.Address.{place_of}
use Rattle.words.specs.Load.{word_moved}
use Rattle.words.specs.declared.answers.Refusal.{Refusal}
use Rattle.service.specs.Transfers.{Lent, lent, sent_on, transmitter_moved_on, words_out, received_on, receiver_moved_on, words_with, words_in}
use Rattle.service.specs.Laws.Ended.{Ended, Falls, Stuck, ended}
use Rattle.service.specs.Laws.Turns.{is_done}

or_true : (a : Bool) → a || true ≡ true
or_true true = refl
or_true false = refl

and_false : (a : Bool) → a && false ≡ false
and_false true = refl
and_false false = refl

put_counts : (s : Silo) (word : ℕ) → has_room 64 s ≡ true → count (put 64 s word) ≡ count s + 1
put_counts s word room = rw room

taken_counts : (s : Silo) → is_empty s ≡ false → count s ≡ count (taken s) + 1
taken_counts s some = let n = eqb-false (count s) 0 some in rw some (omega arith)

-- which answer it is
abbrev is_missing : Result (Option ℕ) Refusal → Bool
is_missing (Ok None) = false
is_missing (Ok (Some address)) = true
is_missing (Err refusal) = false

-- ---- the rules

t_error_rests : (t : Transmitter) → TS.has_error t ≡ true → T.may_move t ≡ false
t_error_rests t e = rw (e, and_false (t.modes.memory_requests && t.end.load.loaded))

r_error_rests : (r : Receiver) → RS.has_error r ≡ true → R.may_move r ≡ false
r_error_rests r e = rw (e, and_false (r.modes.memory_requests && RS.data_out_ready r))

module _ (t : Transmitter) where
  t_may_says : T.may_move t ≡ true → has_room 64 t.end.silo ≡ true
  t_may_says may =
      let a = t.modes.memory_requests && t.end.load.loaded && not (TS.has_error t) in
      let b = has_room 64 t.end.silo in
      let c = not t.modes.read_silo in
      let d = not t.channel.ending in
      right_of a b (left_of (a && b) c (left_of (a && b && c) d may))

  module _ (memory : List ℕ) (fitted : ℕ) where
    abbrev TMissed : T.Moved → Type 0
    TMissed m = is_missing m.answer ≡ true → (T.may_move m.side ≡ false) × (count m.side.end.silo ≡ count t.end.silo)

    t_missed_from : (p : Result ℕ ℕ) → TMissed (T.moved_from t memory p)
    t_missed_from (Ok at) e = absurd (true≢false (sym e))
    t_missed_from (Err address) e = (
      t_error_rests (T.nonexistent t)
          (or_true (t.faults.overrun || t.faults.time_out || t.faults.master_down || t.faults.transmission_error || t.faults.memory_overflow)),
      refl,
    )

    t_missed : TMissed (T.moved t memory fitted)
    t_missed =
        either TMissed (not (T.may_move t)) (λ e h. absurd (true≢false (sym h))) (λ e. t_missed_from (place_of t.end.load.address.0 fitted))

    abbrev TDone : T.Moved → Type 0
    TDone m = is_done m.answer ≡ true → (count t.end.silo < 64) × (count m.side.end.silo ≡ count t.end.silo + 1)

    t_done_from : has_room 64 t.end.silo ≡ true → (p : Result ℕ ℕ) → TDone (T.moved_from t memory p)
    t_done_from room (Ok at) e =
        let word = get_or memory at 0 in
        let a = word_moved t.end.load t.modes.inhibit_increment in (
          ltb-true (count t.end.silo) 64 room,
          either (λ (x : Transmitter). count x.end.silo ≡ count t.end.silo + 1) a.overflow
              (λ e. put_counts t.end.silo word room) (λ e. put_counts t.end.silo word room),
        )
    t_done_from room (Err address) e = absurd (true≢false (sym e))

    t_done : TDone (T.moved t memory fitted)
    t_done =
        either TDone (not (T.may_move t)) (λ e h. absurd (true≢false (sym h)))
        (λ e. t_done_from (t_may_says (not-false (T.may_move t) e)) (place_of t.end.load.address.0 fitted))

module _ (r : Receiver) where
  r_may_says : R.may_move r ≡ true → is_empty r.end.silo ≡ false
  r_may_says may =
      let a = r.modes.memory_requests in
      let b = RS.data_out_ready r in
      let c = not (RS.has_error r) in
      not-true (is_empty r.end.silo) (right_of a b (left_of (a && b) c may))

  module _ (memory : List ℕ) (fitted : ℕ) where
    abbrev RMissed : R.Moved × List ℕ → Type 0
    RMissed m = is_missing m.0.answer ≡ true → (R.may_move m.0.side ≡ false) × (count m.0.side.end.silo ≡ count r.end.silo)

    r_missed_to : (p : Result ℕ ℕ) → RMissed (R.moved_to r memory p)
    r_missed_to (Ok at) e = absurd (true≢false (sym e))
    r_missed_to (Err address) e = (
      r_error_rests (R.nonexistent r)
          (or_true (r.faults.byte_count_overflow || r.faults.time_out || r.faults.parity || r.faults.transmission_error || r.faults.memory_overflow)),
      refl,
    )

    r_missed : RMissed (R.moved r memory fitted)
    r_missed =
        either RMissed (not (R.may_move r)) (λ e h. absurd (true≢false (sym h)))
        (λ e. either RMissed (not r.end.load.loaded) (λ e h. absurd (true≢false (sym h)))
        (λ e. r_missed_to (place_of r.end.load.address.0 fitted)))

    -- BC OFL, and no word; or a word fewer
    abbrev RDone : R.Moved × List ℕ → Type 0
    RDone m =
        is_done m.0.answer ≡ true
        → ((R.may_move m.0.side ≡ false) × (r.end.load.loaded ≡ false) × (count m.0.side.end.silo ≡ count r.end.silo))
        ⊎ ((r.end.load.loaded ≡ true) × (count r.end.silo ≡ count m.0.side.end.silo + 1))

    r_done_to : is_empty r.end.silo ≡ false → r.end.load.loaded ≡ true → (p : Result ℕ ℕ) → RDone (R.moved_to r memory p)
    r_done_to some loaded (Ok at) e =
        let a = word_moved r.end.load r.modes.inhibit_increment in
        inr (
          loaded,
          either (λ (x : Receiver). count r.end.silo ≡ count x.end.silo + 1) a.overflow
              (λ e. taken_counts r.end.silo some) (λ e. taken_counts r.end.silo some),
        )
    r_done_to some loaded (Err address) e = absurd (true≢false (sym e))

    r_done : RDone (R.moved r memory fitted)
    r_done =
        either RDone (not (R.may_move r)) (λ e h. absurd (true≢false (sym h)))
        (λ may. either RDone (not r.end.load.loaded)
        (λ none h. inl (r_error_rests (R.exceeded r) refl, not-true r.end.load.loaded none, refl))
        (λ some. r_done_to (r_may_says (not-false (R.may_move r) may)) (not-false r.end.load.loaded some) (place_of r.end.load.address.0 fitted)))

-- ---- on the cells

module _ (unit : ℕ) where
  abbrev pub t_room : Lent → ℕ
  t_room l = 64 - count (transmitter_of l.cells unit).end.silo

  abbrev pub r_room : Lent → ℕ
  r_room l = count (receiver_of l.cells unit).end.silo

  -- with nothing to move, a single move changes nothing
  pub t_stuck : (l : Lent) → T.may_move (transmitter_of l.cells unit) ≡ false → Stuck (transmitter_moved_on unit) (λ (x : Lent). 1) t_room l
  t_stuck l e = sym (ap (sent_on l.memory) (here _ (ap not e) refl))

  pub r_stuck : (l : Lent) → R.may_move (receiver_of l.cells unit) ≡ false → Stuck (receiver_moved_on unit) (λ (x : Lent). words_with x.cells unit) r_room l
  r_stuck l e = sym (ap received_on (here _ (ap not e) refl))

  abbrev pub Good : Lent → Type 0
  Good l = Fitted l.cells unit

  module _ (l : Lent) (fitted : Fitted l.cells unit) where
    abbrev t : Transmitter
    t = transmitter_of l.cells unit

    abbrev t_after : T.Moved
    t_after = T.moved t l.memory (memory_length l.cells unit)

    -- the side that a move puts back is the one that is read there
    t_put : T.may_move t ≡ true → transmitter_of (transmitter_moved l.cells l.memory unit).1 unit ≡ t_after.side
    t_put may =
        ap (λ (p : Result (Option ℕ) Refusal × List ℕ). transmitter_of p.1 unit) (sym (past _ (ap not may) refl))
        ∙ transmitter_put l.cells unit fitted t_after.side (TK.within_moved t (transmitter_within l.cells unit fitted) l.memory (memory_length l.cells unit))

    abbrev r : Receiver
    r = receiver_of l.cells unit

    abbrev r_after : R.Moved
    r_after = (R.moved r l.memory (memory_length l.cells unit)).0

    r_put : R.may_move r ≡ true → receiver_of (receiver_moved l.cells l.memory unit).1 unit ≡ r_after.side
    r_put may =
        ap (λ (p : Result (Option ℕ) Refusal × List ℕ × List ℕ). receiver_of p.1 unit) (sym (past _ (ap not may) refl))
        ∙ receiver_put l.cells unit fitted r_after.side (RK.within_moved r (receiver_within l.cells unit fitted) l.memory (memory_length l.cells unit))

    t_length : length (transmitter_moved l.cells l.memory unit).1 ≡ length l.cells
    t_length =
        either (λ (p : Result (Option ℕ) Refusal × List ℕ). length p.1 ≡ length l.cells) (not (T.may_move t)) (λ e. refl)
        (λ e. length_kept l.cells unit fitted 4 (enc_transmitter (transmitter_cells l.cells unit) t_after.side)
        (transmitter_part l.cells unit fitted t_after.side (TK.within_moved t (transmitter_within l.cells unit fitted) l.memory (memory_length l.cells unit))))

    r_length : length (receiver_moved l.cells l.memory unit).1 ≡ length l.cells
    r_length =
        either (λ (p : Result (Option ℕ) Refusal × List ℕ × List ℕ). length p.1 ≡ length l.cells) (not (R.may_move r)) (λ e. refl)
        (λ e. length_kept l.cells unit fitted 77 (enc_receiver (receiver_cells l.cells unit) r_after.side)
        (receiver_part l.cells unit fitted r_after.side (RK.within_moved r (receiver_within l.cells unit fitted) l.memory (memory_length l.cells unit))))

    -- what was answered 0 could move
    t_may : has_moved (transmitter_moved l.cells l.memory unit).0 ≡ true → T.may_move t ≡ true
    t_may =
        either (λ (p : Result (Option ℕ) Refusal × List ℕ). has_moved p.0 ≡ true → T.may_move t ≡ true) (not (T.may_move t)) (λ e h. absurd (true≢false (sym h)))
        (λ e h. not-false (T.may_move t) e)

    r_may : has_moved (receiver_moved l.cells l.memory unit).0 ≡ true → R.may_move r ≡ true
    r_may =
        either (λ (p : Result (Option ℕ) Refusal × List ℕ × List ℕ). has_moved p.0 ≡ true → R.may_move r ≡ true) (not (R.may_move r)) (λ e h. absurd (true≢false (sym h)))
        (λ e h. not-false (R.may_move r) e)

  pub t_falls : Falls (transmitter_moved_on unit) (λ (x : Lent). 1) t_room Good
  t_falls =
      record {
        nothing = λ a b refusal good e.
            let answered = sym (transmitter_answers a.cells a.memory unit) ∙ ap (λ (m : Result (Option ℕ) Refusal × Lent). m.0) e in
            let stays = ap (sent_on a.memory) (transmitter_stays a.cells a.memory unit (ap has_moved answered)) in
            (stays, ap (λ (m : Result (Option ℕ) Refusal × Lent). m.1) (sym e ∙ stays));
        missing = λ a b address good e.
            let told = ap (λ (m : Result (Option ℕ) Refusal × Lent). m.0) e in
            let answered = sym (transmitter_answers a.cells a.memory unit) ∙ told in
            let left = ap (λ (m : Result (Option ℕ) Refusal × Lent). m.1) e in
            let put = t_put a good (t_may a good (ap has_moved told)) in
            let missed = t_missed (transmitter_of a.cells unit) a.memory (memory_length a.cells unit) (ap is_missing answered) in
            let there = ap (λ (x : Transmitter). count x.end.silo) put ∙ missed.1 in (
              rw (← left) (t_stuck (transmitter_moved_on unit a).1 (ap T.may_move put ∙ missed.0)),
              rw told at (transmitter_short a.cells a.memory unit good),
              rw (← left) (ap (λ (n : ℕ). 64 - n) (sym there)),
            );
        done = λ a b good e.
            let told = ap (λ (m : Result (Option ℕ) Refusal × Lent). m.0) e in
            let answered = sym (transmitter_answers a.cells a.memory unit) ∙ told in
            let left = ap (λ (m : Result (Option ℕ) Refusal × Lent). m.1) e in
            let more = t_done (transmitter_of a.cells unit) a.memory (memory_length a.cells unit) (ap is_done answered) in
            let there = ap (λ (x : Transmitter). count x.end.silo) (t_put a good (t_may a good (ap has_moved told))) in
            inr (rw (← left) (still_fitted (t_length a good) good), refl, rw (← left) (omega (arith, there, more.0, more.1)));
      }

  pub r_falls : Falls (receiver_moved_on unit) (λ (x : Lent). words_with x.cells unit) r_room Good
  r_falls =
      record {
        nothing = λ a b refusal good e.
            let answered = sym (receiver_answers a.cells a.memory unit) ∙ ap (λ (m : Result (Option ℕ) Refusal × Lent). m.0) e in
            let stays = ap received_on (receiver_stays a.cells a.memory unit (ap has_moved answered)) in
            (stays, ap (λ (m : Result (Option ℕ) Refusal × Lent). m.1) (sym e ∙ stays));
        missing = λ a b address good e.
            let told = ap (λ (m : Result (Option ℕ) Refusal × Lent). m.0) e in
            let answered = sym (receiver_answers a.cells a.memory unit) ∙ told in
            let left = ap (λ (m : Result (Option ℕ) Refusal × Lent). m.1) e in
            let put = r_put a good (r_may a good (ap has_moved told)) in
            let missed = r_missed (receiver_of a.cells unit) a.memory (memory_length a.cells unit) (ap is_missing answered) in (
              rw (← left) (r_stuck (receiver_moved_on unit a).1 (ap R.may_move put ∙ missed.0)),
              rw told at (receiver_short a.cells a.memory unit good),
              rw (← left) (sym (ap (λ (x : Receiver). count x.end.silo) put ∙ missed.1)),
            );
        done = λ a b good e.
            let told = ap (λ (m : Result (Option ℕ) Refusal × Lent). m.0) e in
            let answered = sym (receiver_answers a.cells a.memory unit) ∙ told in
            let left = ap (λ (m : Result (Option ℕ) Refusal × Lent). m.1) e in
            let put = r_put a good (r_may a good (ap has_moved told)) in
            let there = ap (λ (x : Receiver). count x.end.silo) put in
            ⊎_elim
            (λ stops.
            inl (rw (← left) (r_stuck (receiver_moved_on unit a).1 (ap R.may_move put ∙ stops.0)), ap bit stops.1, rw (← left) (sym (there ∙ stops.2))))
            (λ fewer.
            inr (rw (← left) (still_fitted (r_length a good) good), ap bit fewer.0, rw (← left) (fewer.1 ∙ ap (λ (n : ℕ). n + 1) (sym there))))
            (r_done (receiver_of a.cells unit) a.memory (memory_length a.cells unit) (ap is_done answered));
      }

-- ---- a whole transfer

module _ (cells memory : List ℕ) (unit : ℕ) (fitted : Fitted cells unit) where
  pub sent_all : Ended (transmitter_moved_on unit) (λ (x : Lent). 1) (t_room unit) 0 (lent cells memory) (words_out unit 65 0 (lent cells memory))
  sent_all = ended (transmitter_moved_on unit) (λ (x : Lent). 1) (t_room unit) (t_falls unit) 65 0 (lent cells memory) fitted (omega arith)

  pub received_all : Ended (receiver_moved_on unit) (λ (x : Lent). words_with x.cells unit) (r_room unit) 0 (lent cells memory) (words_in unit 65 0 (lent cells memory))
  received_all =
      ended (receiver_moved_on unit) (λ (x : Lent). words_with x.cells unit) (r_room unit) (r_falls unit) 65 0 (lent cells memory) fitted
      (omega (arith, (receiver_within cells unit fitted).end.silo.most))
