-- The plain slice on the lent cells: two windows that pass the tests are two ends in step, and what each kind of slice makes of them.
-- Assumes nothing.
use Rattle.std.specs.Prelude.{true, false, ◌&&◌, List, ◌∷◌, ◌++◌, ◌≡◌, refl, ℕ, ◌+◌, ◌-◌, ◌*◌, ◌/◌, ◌%◌, ◌^◌, ◌≤◌, ◌<◌, min, eqb, leb, ltb, length, get_or, set, None, Some}
use Rattle.std.proofs.Common.{⊎_elim, ap, sym, ◌∙◌, add-zero, arith, leb-true, ltb-true, eqb-true, eq-eqb, lit≤, lit<}
use Rattle.std.proofs.lemmas.Bool.{eqb-false}
use Rattle.answering.specs.Choice.{open_with_another}
use Rattle.answering.specs.Laws.Listening.{after_word, after_crc, after_due}
use Rattle.codec.specs.Receivers.{enc_receiver, dec_receiver, receiver_at}
use Rattle.codec.specs.Transmitters.{enc_transmitter, dec_transmitter, transmitter_at}
use Rattle.codec.specs.Window.{cell, window, splice}
use Rattle.codec.specs.Laws.WindowLaws.{length_splice, length_window, window_before, window_after, cell_window, cell_before, cell_past}
use Rattle.laws.specs.Bits.{on, bits}
use Rattle.laws.specs.Laws.Both.{left_of, right_of}
use Rattle.receiver.specs.declared.side.Receiver.{Receiver}
use Rattle.sending.specs.Choice.{all_sent}
use Rattle.sending.specs.Events.{counted, restarted}
use Rattle.sending.specs.Hearing.{showing, after_sending}
use Rattle.sending.specs.declared.choice.Choice.{Choice}
use Rattle.silos.specs.Silo.{oldest}
use Rattle.slices.specs.Slice.{exchanged}
use Rattle.slices.specs.declared.Pair.{Pair}
use Rattle.slices.specs.Laws.InStep.{InStep, word_step, due_step, due_verdict}
use Rattle.transmitter.specs.Requests.{settled}
use Rattle.transmitter.specs.declared.side.Transmitter.{Transmitter}
use Rattle.words.specs.Crc.{crc_word}
use Rattle.plain_slices.specs.Carried.{Placed, between, receiver_put, put_both, Carried, Tried}
use Rattle.plain_slices.specs.Heads.{headed, written, first_at, unmarked, acknowledged, word_carried, due_sent, due_taken, sender_restarted, receiver_restarted}
use Rattle.plain_slices.specs.Tests.{talks_by, talks_at, listens_by, listens_at, in_step_at, Sixteen}
use Rattle.plain.specs.Places.{front, behind, with_one, without_oldest}
use Rattle.plain.specs.Laws.Heads.{head_at, head_and_silo}
use Rattle.plain_slices.specs.Laws.Listeners.{Listens}
use Rattle.plain_slices.specs.Laws.Listeners as Listener
use Rattle.plain_slices.specs.Laws.Talkers.{Talks}
use Rattle.plain_slices.specs.Laws.Talkers as Talker

-- ---- what the tests say

abbrev pub TalksAt : List ℕ → ℕ → Type 0
TalksAt cells t =
    Talks (cell cells t) (cell cells (t + 1)) (cell cells (t + 2)) (cell cells (t + 3)) (cell cells (t + 4)) (cell cells (t + 5)) (cell cells (t + 6)) (cell cells (t + 7))
    (cell cells (t + 8)) (window cells (t + 9) 64)

abbrev pub ListensAt : List ℕ → ℕ → Type 0
ListensAt cells r =
    Listens (cell cells r) (cell cells (r + 1)) (cell cells (r + 2)) (cell cells (r + 3)) (cell cells (r + 4)) (cell cells (r + 5)) (cell cells (r + 6)) (cell cells (r + 7))
    (cell cells (r + 8)) (window cells (r + 9) 64)

-- bits 8 to 14 are clear
clear_going : (s : ℕ) → s / 256 % 128 ≡ 0 → s / 2 ^ 8 % 2 ≡ 0
clear_going s h = omega arith

clear_faults : (s : ℕ) → s / 256 % 128 ≡ 0 → bits s 9 6 ≡ 0
clear_faults s h = omega arith

pub talks_says : (ring block own low count control status crc serial : ℕ) (cells : List ℕ) → talks_by ring own low count control status ≡ true
    → Talks ring block own low count control status crc serial cells
talks_says ring block own low count control status crc serial cells ok =
    let a = leb 64 ring in
    let b = ltb ring 4160 in
    let c = ltb own 32 in
    let d = ltb low 32768 in
    let e = ltb count 32768 in
    let f = eqb (control % 2) 1 in
    let g = eqb (status / 64 % 2) 1 in
    let h = eqb (status / 256 % 128) 0 in
    let p7 = left_of (a && b && c && d && e && f && g) h ok in
    let p6 = left_of (a && b && c && d && e && f) g p7 in
    let p5 = left_of (a && b && c && d && e) f p6 in
    let p4 = left_of (a && b && c && d) e p5 in
    let p3 = left_of (a && b && c) d p4 in
    let p2 = left_of (a && b) c p3 in
    let clear = eqb-true _ _ (right_of (a && b && c && d && e && f && g) h ok) in
    record {
      some = leb-true _ _ (left_of a b p2);
      most = ltb-true _ _ (right_of a b p2);
      latched = ltb-true _ _ (right_of (a && b) c p3);
      low15 = ltb-true _ _ (right_of (a && b && c) d p4);
      count15 = ltb-true _ _ (right_of (a && b && c && d) e p5);
      started = eqb-true _ _ (right_of (a && b && c && d && e) f p6);
      opened = eqb-true _ _ (right_of (a && b && c && d && e && f) g p7);
      going = clear_going status clear;
      faultless = clear_faults status clear;
    }

pub listens_says : (ring block own low count control status crc serial : ℕ) (cells : List ℕ) (from : ℕ) → listens_by ring own low count control status from ≡ true
    → Listens ring block own low count control status crc serial cells × (control / 2 ^ 8 % 2 ^ 5 ≡ from)
listens_says ring block own low count control status crc serial cells from ok =
    let a = ltb ring 4160 in
    let b = ltb own 2 in
    let c = ltb low 32768 in
    let d = ltb count 32768 in
    let e = eqb (control % 2) 1 in
    let f = ltb control 32768 in
    let g = eqb (control / 256 % 32) from in
    let h = eqb (status / 16 % 2) 1 in
    let i = ltb status 512 in
    let p8 = left_of (a && b && c && d && e && f && g && h) i ok in
    let p7 = left_of (a && b && c && d && e && f && g) h p8 in
    let p6 = left_of (a && b && c && d && e && f) g p7 in
    let p5 = left_of (a && b && c && d && e) f p6 in
    let p4 = left_of (a && b && c && d) e p5 in
    let p3 = left_of (a && b && c) d p4 in
    let p2 = left_of (a && b) c p3 in (
      record {
        most = ltb-true _ _ (left_of a b p2);
        flag = ltb-true _ _ (right_of a b p2);
        low15 = ltb-true _ _ (right_of (a && b) c p3);
        count15 = ltb-true _ _ (right_of (a && b && c) d p4);
        receiving = eqb-true _ _ (right_of (a && b && c && d) e p5);
        accepting = ltb-true _ _ (right_of (a && b && c && d && e) f p6);
        opened = eqb-true _ _ (right_of (a && b && c && d && e && f && g) h p8);
        clear = ltb-true _ _ (right_of (a && b && c && d && e && f && g && h) i ok);
      },
      eqb-true _ _ (right_of (a && b && c && d && e && f) g p7),
    )

-- ---- two windows apart: one written leaves the other

module _ (cells : List ℕ) (t r : ℕ) (placed : Placed cells t r) (w : List ℕ) (wide : length w ≡ 73) where
  other_cell : (k : ℕ) → k < 73 → cell (splice cells t w) (r + k) ≡ cell cells (r + k)
  other_cell k h =
      ⊎_elim (λ (before : t + 73 ≤ r). cell_past cells t w (omega arith) (r + k) (omega arith))
      (λ (after : r + 73 ≤ t). cell_before cells t w (omega arith) (r + k) (omega arith)) placed.apart

  first_cell : cell (splice cells t w) r ≡ cell cells r
  first_cell = simp add-zero at (other_cell 0 (lit< tt))

  other_part : (k n : ℕ) → k + n ≤ 73 → window (splice cells t w) (r + k) n ≡ window cells (r + k) n
  other_part k n h =
      ⊎_elim (λ (before : t + 73 ≤ r). window_after cells t w (r + k) (omega arith) (omega arith) n)
      (λ (after : r + 73 ≤ t). window_before cells t w (r + k) n (omega arith) (omega arith)) placed.apart

  other_window : window (splice cells t w) r 73 ≡ window cells r 73
  other_window = simp add-zero at (other_part 0 73 (lit≤ tt))

  -- so what is asked of it holds on
  still_fits : r + 73 ≤ length (splice cells t w)
  still_fits = rw (length_splice cells t w (omega arith)) (omega arith)

  other_asked : (P : ℕ → ℕ → ℕ → Type 0) → P (cell cells r) (cell cells (r + 1)) (cell cells (r + 6))
      → P (cell (splice cells t w) r) (cell (splice cells t w) (r + 1)) (cell (splice cells t w) (r + 6))
  other_asked P h = rw (first_cell, other_cell 1 (lit< tt), other_cell 6 (lit< tt)) h

  pub other_written : (g : ℕ → ℕ → ℕ → ℕ → ℕ → ℕ → ℕ → ℕ → ℕ → List ℕ → List ℕ)
      → g (cell (splice cells t w) r) (cell (splice cells t w) (r + 1)) (cell (splice cells t w) (r + 2)) (cell (splice cells t w) (r + 3)) (cell (splice cells t w) (r + 4))
      (cell (splice cells t w) (r + 5)) (cell (splice cells t w) (r + 6)) (cell (splice cells t w) (r + 7)) (cell (splice cells t w) (r + 8))
      (window (splice cells t w) (r + 9) 64)
      ≡ g (cell cells r) (cell cells (r + 1)) (cell cells (r + 2)) (cell cells (r + 3)) (cell cells (r + 4)) (cell cells (r + 5)) (cell cells (r + 6)) (cell cells (r + 7))
      (cell cells (r + 8)) (window cells (r + 9) 64)
  other_written g =
      rw (first_cell, other_cell 1 (lit< tt), other_cell 2 (lit< tt), other_cell 3 (lit< tt), other_cell 4 (lit< tt), other_cell 5 (lit< tt), other_cell 6 (lit< tt), other_cell 7 (lit< tt), other_cell 8 (lit< tt), other_part 9 64 (lit≤ tt))

-- what is asked of the second window holds when the first is written
pub still_asked : (cells : List ℕ) (t r : ℕ) → Placed cells t r → (ring block control status crc : ℕ)
    → (P : ℕ → ℕ → ℕ → Type 0) → P (cell cells r) (cell cells (r + 1)) (cell cells (r + 6))
    → (r + 73 ≤ length (written cells t ring block control status crc (window cells (t + 9) 64)))
    × P (cell (written cells t ring block control status crc (window cells (t + 9) 64)) r)
    (cell (written cells t ring block control status crc (window cells (t + 9) 64)) (r + 1))
    (cell (written cells t ring block control status crc (window cells (t + 9) 64)) (r + 6))
still_asked cells t r placed ring block control status crc P h =
    let w = headed cells t ring block control status crc (window cells (t + 9) 64) in
    let wide : length w ≡ 73 = omega (arith, length_window cells (t + 9) 64 (omega arith)) in
    (still_fits cells t r placed w wide, other_asked cells t r placed w wide P h)

-- ---- the sides at two places, by the cells

-- two windows that are those of two ends in step
pub record StepAt (cells : List ℕ) (t r from : ℕ) : Type 0 where
  pub talker : TalksAt cells t
  pub listener : ListensAt cells r
  pub sender : cell cells (r + 5) / 2 ^ 8 % 2 ^ 5 ≡ from
  pub block : cell cells (t + 1) ≡ cell cells (r + 1)
  pub crc : cell cells (t + 7) ≡ cell cells (r + 7)
  pub sixteen : Sixteen cells

-- the tests say so
pub in_step_says : (cells : List ℕ) (t r from : ℕ) → in_step_at cells t r from ≡ true → Sixteen cells → StepAt cells t r from
in_step_says cells t r from ok sixteen =
    let a = talks_at cells t in
    let b = listens_at cells r from in
    let c = eqb (cell cells (t + 1)) (cell cells (r + 1)) in
    let d = eqb (cell cells (t + 7)) (cell cells (r + 7)) in
    let ab = left_of (a && b) (c && d) ok in
    let cd = right_of (a && b) (c && d) ok in
    let listener = listens_says _ _ _ _ _ _ _ _ (cell cells (r + 8)) (window cells (r + 9) 64) from (right_of a b ab) in
    record {
      talker = talks_says _ _ _ _ _ _ _ _ (cell cells (t + 8)) (window cells (t + 9) 64) (left_of a b ab);
      listener = listener.0;
      sender = listener.1;
      block = eqb-true _ _ (left_of c d cd);
      crc = eqb-true _ _ (right_of c d cd);
      sixteen = sixteen;
    }

module _ (cells : List ℕ) (t r from : ℕ) (placed : Placed cells t r) (s : StepAt cells t r from) where
  abbrev at_t : List ℕ
  at_t = head_at cells t ++ window cells (t + 9) 64

  abbrev at_r : List ℕ
  at_r = head_at cells r ++ window cells (r + 9) 64

  stands_t : window cells t 73 ≡ at_t
  stands_t = head_and_silo cells t placed.sender

  stands_r : window cells r 73 ≡ at_r
  stands_r = head_and_silo cells r placed.receiver

  abbrev T : Transmitter
  T = dec_transmitter at_t

  abbrev R : Receiver
  R = dec_receiver at_r

  sender_at : transmitter_at cells t ≡ T
  sender_at = ap dec_transmitter stands_t

  receiver_at_lem : receiver_at cells r ≡ R
  receiver_at_lem = ap dec_receiver stands_r

  long_t : length (window cells (t + 9) 64) ≡ 64
  long_t = length_window cells (t + 9) 64 (omega arith)

  long_r : length (window cells (r + 9) 64) ≡ 64
  long_r = length_window cells (r + 9) 64 (omega arith)

  in_step : InStep T R from
  in_step =
      record {
        talking = Talker.talking _ _ _ _ _ _ _ _ _ _ s.talker (s.sixteen (t + 5)) (s.sixteen (t + 6)) (s.sixteen (t + 7)) (s.sixteen (t + 8)) long_t;
        listening = Listener.listening _ _ _ _ _ _ _ _ _ _ s.listener (s.sixteen (r + 7)) (s.sixteen (r + 8)) long_r from s.sender;
        block = ap (min 128) (sym s.block);
        crc = ap (λ (n : ℕ). n % 2 ^ 16) (sym s.crc);
      }

  going : T.channel.ending ≡ false
  going = Talker.going _ _ _ _ _ _ _ _ _ _ s.talker (s.sixteen (t + 5)) (s.sixteen (t + 6)) (s.sixteen (t + 7)) (s.sixteen (t + 8)) long_t

  more : all_sent T ≡ false
  more = Talker.more _ _ _ _ _ _ _ _ _ _ s.talker (s.sixteen (t + 5)) (s.sixteen (t + 6)) (s.sixteen (t + 7)) (s.sixteen (t + 8)) long_t

  free : cell cells (t + 6) < 2 ^ 15 → T.channel.awaiting ≡ false
  free h = let e15 : cell cells (t + 6) / 2 ^ 15 % 2 ≡ 0 = omega arith in rw e15

  pub own : open_with_another (receiver_at cells r) from ≡ false
  own = ap (λ (x : Receiver). open_with_another x from) receiver_at_lem ∙ rw (s.listener.opened, eq-eqb (cell cells (r + 5) / 2 ^ 8 % 2 ^ 5) from s.sender)

  between_is : between cells t r from ≡ exchanged T R from 0 false
  between_is = ap (λ (x : Transmitter). exchanged x (receiver_at cells r) from 0 false) sender_at ∙ ap (λ (x : Receiver). exchanged T x from 0 false) receiver_at_lem

  -- a word
  pub word : cell cells (t + 1) < 128 → cell cells (t + 6) < 2 ^ 15 → cell cells r < 4096
      → between cells t r from ≡ record { transmitter = settled (counted (showing T 2 3)); receiver = after_word R (oldest T.end.silo); codes = record { a = 2; b = 3 } }
  word short h room =
      between_is
      ∙ (word_step T R from in_step going (free h) more (omega arith)
      (Talker.not_empty _ _ _ _ _ _ _ _ _ _ s.talker (s.sixteen (t + 5)) (s.sixteen (t + 6)) (s.sixteen (t + 7)) (s.sixteen (t + 8)) long_t)
      (Listener.has_room_lem _ _ _ _ _ _ _ _ _ _ s.listener (s.sixteen (r + 7)) (s.sixteen (r + 8)) long_r room))

  -- a due CRC taken
  pub due : cell cells (t + 1) ≡ 128 → cell cells (t + 6) < 2 ^ 15 → cell cells (r + 6) / 2 ^ 6 % 2 ≡ 0
      → between cells t r from ≡ record { transmitter = settled (showing (after_sending T Choice.DueCrc) 2 1); receiver = after_crc R 2; codes = record { a = 2; b = 1 } }
  due full h none = between_is ∙ due_step T R from in_step going (free h) more (omega arith) (rw none)

  -- a due CRC found good
  pub verdict : cell cells (t + 1) ≡ 128 → 2 ^ 15 ≤ cell cells (t + 6) → cell cells (r + 6) / 2 ^ 6 % 2 ≡ 1 → cell cells (r + 6) / 2 ^ 8 % 2 ≡ 1
      → between cells t r from
      ≡ record { transmitter = settled (restarted (showing (after_sending T Choice.DueCrc) 2 3)); receiver = after_due R; codes = record { a = 2; b = 3 } }
  verdict full h owed good =
      let status16 = s.sixteen (t + 6) in
      let e15 : cell cells (t + 6) / 2 ^ 15 % 2 ≡ 1 = omega arith in
      between_is ∙ due_verdict T R from in_step going (rw (e15, full)) (omega arith) (rw owed) (rw good)

  -- ---- what is written is both sides put back

  -- a window at each place, the second made of cells that the first leaves
  both_put : (x : Transmitter) (y : Receiver) (w : List ℕ) (g : ℕ → ℕ → ℕ → ℕ → ℕ → ℕ → ℕ → ℕ → ℕ → List ℕ → List ℕ) → length w ≡ 73
      → enc_transmitter at_t x ≡ w
      → enc_receiver at_r y
      ≡ g (cell cells r) (cell cells (r + 1)) (cell cells (r + 2)) (cell cells (r + 3)) (cell cells (r + 4)) (cell cells (r + 5)) (cell cells (r + 6)) (cell cells (r + 7))
      (cell cells (r + 8)) (window cells (r + 9) 64)
      → splice (splice cells t w) r
      (g (cell (splice cells t w) r) (cell (splice cells t w) (r + 1)) (cell (splice cells t w) (r + 2)) (cell (splice cells t w) (r + 3)) (cell (splice cells t w) (r + 4))
      (cell (splice cells t w) (r + 5)) (cell (splice cells t w) (r + 6)) (cell (splice cells t w) (r + 7)) (cell (splice cells t w) (r + 8))
      (window (splice cells t w) (r + 9) 64))
      ≡ put_both cells t r x y
  both_put x y w g wide e e' =
      ap (splice (splice cells t w) r)
      (other_written cells t r placed w wide g ∙ sym e' ∙ ap (λ (l : List ℕ). enc_receiver l y) (sym (other_window cells t r placed w wide ∙ stands_r)))
      ∙ ap (λ (l : List ℕ). receiver_put (splice cells t l) r y) (sym (ap (λ (l : List ℕ). enc_transmitter l x) stands_t ∙ e))

  word_is : get_or (window cells (t + 9) 64) (front (cell cells t)) 0 ≡ first_at cells t
  word_is = cell_window cells (t + 9) 64 (front (cell cells t)) (omega arith)

  oldest_is_lem : oldest T.end.silo ≡ first_at cells t
  oldest_is_lem =
      Talker.oldest_is_lem _ _ _ _ _ _ _ _ _ _ s.talker (s.sixteen (t + 5)) (s.sixteen (t + 6)) (s.sixteen (t + 7)) (s.sixteen (t + 8)) long_t ∙ word_is

  abbrev status_t : ℕ
  status_t = cell cells (t + 6)

  abbrev status_r : ℕ
  status_r = cell cells (r + 6)

  abbrev between_them : Pair
  between_them = between cells t r from

  pub carried_word : cell cells (t + 1) < 128 → status_t < 2 ^ 15 → cell cells r < 4096 → Carried cells t r from 3 (word_carried cells t r)
  carried_word short h room =
      let is = word short h room in
      let crc' = crc_word (cell cells (t + 7)) (first_at cells t) in
      record {
        own = own;
        codes = ap (λ (p : Pair). p.codes) is;
        sides =
            both_put between_them.transmitter between_them.receiver
            (headed cells t (without_oldest (cell cells t)) (cell cells (t + 1) + 1) (unmarked (cell cells (t + 5))) (acknowledged status_t) crc' (window cells (t + 9) 64))
            (λ ring since own low count control status check serial words.
            with_one ring ∷ (since + 1) ∷ own ∷ low ∷ count ∷ unmarked control ∷ acknowledged status ∷ crc' ∷ serial ∷ set words (behind ring) (first_at cells t))
            (omega (arith, long_t))
            (ap (λ (p : Pair). enc_transmitter at_t p.transmitter) is
            ∙ Talker.window_sent _ _ _ _ _ _ _ _ _ _ s.talker (s.sixteen (t + 5)) (s.sixteen (t + 6)) (s.sixteen (t + 7)) (s.sixteen (t + 8)) long_t short h
            ∙ rw word_is refl)
            (ap (λ (p : Pair). enc_receiver at_r p.receiver) is
            ∙ ap (λ (x : ℕ). enc_receiver at_r (after_word R x)) oldest_is_lem
            ∙ Listener.window_stored _ _ _ _ _ _ _ _ _ _ s.listener (s.sixteen (r + 7)) (s.sixteen (r + 8)) long_r (first_at cells t) room (rw (← s.block) short)
            ∙ rw (← s.crc) refl);
      }

  pub carried_due : cell cells (t + 1) ≡ 128 → status_t < 2 ^ 15 → status_r / 2 ^ 6 % 2 ≡ 0 → status_r / 2 ^ 8 % 2 ≡ 0
      → Carried cells t r from 1 (due_taken (due_sent cells t) r)
  carried_due full h none fresh =
      let is = due full h none in
      record {
        own = own;
        codes = ap (λ (p : Pair). p.codes) is;
        sides =
            both_put between_them.transmitter between_them.receiver
            (headed cells t (cell cells t) (cell cells (t + 1)) (cell cells (t + 5)) (status_t / 16 * 16 + 6 + 32768) (cell cells (t + 7)) (window cells (t + 9) 64))
            (λ ring since own low count control status check serial words. ring ∷ since ∷ own ∷ low ∷ count ∷ control ∷ (status / 16 * 16 + 6 + 64 + 256) ∷ check ∷ serial ∷ words)
            (omega (arith, long_t))
            (ap (λ (p : Pair). enc_transmitter at_t p.transmitter) is
            ∙ Talker.window_due _ _ _ _ _ _ _ _ _ _ s.talker (s.sixteen (t + 5)) (s.sixteen (t + 6)) (s.sixteen (t + 7)) (s.sixteen (t + 8)) long_t full h)
            (ap (λ (p : Pair). enc_receiver at_r p.receiver) is ∙ Listener.window_taken _ _ _ _ _ _ _ _ _ _ s.listener (s.sixteen (r + 7)) (s.sixteen (r + 8)) long_r (sym s.block ∙ full) none fresh);
      }

  pub carried_verdict : cell cells (t + 1) ≡ 128 → 2 ^ 15 ≤ status_t → status_r / 2 ^ 6 % 2 ≡ 1 → status_r / 2 ^ 8 % 2 ≡ 1
      → Carried cells t r from 3 (receiver_restarted (sender_restarted cells t) r)
  carried_verdict full h owed good =
      let is = verdict full h owed good in
      record {
        own = own;
        codes = ap (λ (p : Pair). p.codes) is;
        sides =
            both_put between_them.transmitter between_them.receiver
            (headed cells t (cell cells t) 0 (cell cells (t + 5)) (acknowledged (status_t % 32768)) 0 (window cells (t + 9) 64))
            (λ ring since own low count control status check serial words. ring ∷ 0 ∷ own ∷ low ∷ count ∷ control ∷ (acknowledged status - 320) ∷ 0 ∷ serial ∷ words)
            (omega (arith, long_t))
            (ap (λ (p : Pair). enc_transmitter at_t p.transmitter) is
            ∙ Talker.window_passed _ _ _ _ _ _ _ _ _ _ s.talker (s.sixteen (t + 5)) (s.sixteen (t + 6)) (s.sixteen (t + 7)) (s.sixteen (t + 8)) long_t full h)
            (ap (λ (p : Pair). enc_receiver at_r p.receiver) is ∙ Listener.window_restarted _ _ _ _ _ _ _ _ _ _ s.listener (s.sixteen (r + 7)) (s.sixteen (r + 8)) long_r owed good);
      }

-- ---- a slice that was tried

pub nothing_done : (cells : List ℕ) (t r from : ℕ) → Tried cells t r from None cells
nothing_done cells t r from = refl

pub done : (cells : List ℕ) (t r from b : ℕ) (after : List ℕ) → 1 ≤ b → Carried cells t r from b after → Tried cells t r from (Some b) after
done cells t r from b after some carried = carried

-- a bit that was found clear
pub clear_at : (n : ℕ) → on (n % 2) ≡ false → n % 2 ≡ 0
clear_at n e =
    let other = eqb-false (n % 2) 1 e in
    omega arith
