-- An open receiver that goes on with its message, on the cells of its window: what the plain cases of a slice make of them.
-- Assumes nothing.
use Rattle.std.specs.Prelude.{Bool, true, false, ◌&&◌, List, ◌∷◌, ◌≡◌, refl, ℕ, zero, suc, ◌+◌, ◌-◌, ◌*◌, ◌/◌, ◌%◌, ◌^◌, ◌<◌, min, length, set, take}
use Rattle.std.proofs.Common.{ap, ◌∙◌, arith, lt-ltb, take_all}
use Rattle.answering.specs.Laws.Listening.{Listening, after_word, after_crc, after_due}
use Rattle.codec.specs.Ends.{load_of}
use Rattle.codec.specs.Receivers.{enc_receiver, dec_receiver}
use Rattle.codec.specs.Rings.{silo_of}
use Rattle.laws.specs.Bits.{bit, bits, bit_at}
use Rattle.laws.specs.Laws.Fields.{bit_on}
use Rattle.receiver.specs.Bits.{commands_in, modes_in, faults_in, outcome_in}
use Rattle.receiver.specs.declared.side.Receiver.{Receiver}
use Rattle.silos.specs.Silo.{has_room, put}
use Rattle.silos.specs.declared.Silo.{Silo}
use Rattle.words.specs.Crc.{crc_word}
use Rattle.plain.specs.Places.{behind, with_one}
use Rattle.plain.specs.Laws.Faults.{faultless}
use Rattle.plain.specs.Laws.PlaceLaws.{parts, same_parts, put_parts}
use Rattle.plain_slices.specs.Laws.Kept.{control_with, status_with, same}

-- a mark in a cell of its own, where it counts
flag_back : (n : ℕ) → n < 2 → bit (bit_at n 0 && true) ≡ n
flag_back zero h = refl
flag_back (suc zero) h = refl
flag_back (suc (suc n)) h = omega arith

open_mark : (mark : Bool) → (mark && true) ≡ mark
open_mark true = refl
open_mark false = refl

module _ (ring block own low count control status crc serial : ℕ) (cells : List ℕ) where
  abbrev old : List ℕ
  old = ring ∷ block ∷ own ∷ low ∷ count ∷ control ∷ status ∷ crc ∷ serial ∷ cells

  abbrev r : Receiver
  r = dec_receiver old

  -- a receiver whose own cell, load and bits are those of the window, with what a slice may change
  abbrev listener : Silo → ℕ → ℕ → ℕ → ℕ → Bool → Bool → Bool → Receiver
  listener words a b since check mark owed good =
      record {
        end = record {
          silo = words;
          load = load_of low count control;
          shown = record { a = a; b = b };
          opened = bit_at status 4;
          block = since;
          crc = check;
          mark = mark;
          serial = serial % 2 ^ 16;
        };
        commands = commands_in control;
        modes = modes_in control;
        faults = faults_in status;
        outcome = outcome_in status;
        channel = record { owed = owed; good = good; bad_parity = false; truncated = bit_at own 0 && true };
      }

  -- open, with RCV DAT and without REJ, with no error, and the word before had good parity; and the cells are as a call writes them
  pub record Listens : Type 0 where
    pub most : ring < 4160
    pub flag : own < 2
    pub low15 : low < 2 ^ 15
    pub count15 : count < 2 ^ 15
    pub receiving : control % 2 ≡ 1
    pub accepting : control < 2 ^ 15
    pub opened : status / 2 ^ 4 % 2 ≡ 1
    pub clear : status < 2 ^ 9

  module _ (k : Listens) (crc16 : crc < 2 ^ 16) (serial16 : serial < 2 ^ 16) (long : length cells ≡ 64) where
    pub listening : (from : ℕ) → control / 2 ^ 8 % 2 ^ 5 ≡ from → Listening r from
    listening from e =
        let accepting = k.accepting in
        let clear = k.clear in
        let no_reject : control / 2 ^ 15 % 2 ≡ 0 = omega arith in
        let good_parity : status / 2 ^ 15 % 2 ≡ 0 = omega arith in
        let no_fault : bits status 9 6 ≡ 0 = omega arith in
        record { opened = rw k.opened; sender = e; no_error = faultless status no_fault; parity = rw good_parity; accepting = rw no_reject; receiving = rw k.receiving }

    -- the ring's cells are those of the window
    whole : take 64 cells ≡ cells
    whole = take_all 64 cells (omega arith)

    listener_window : (words : Silo) (a b since check : ℕ) (mark owed good : Bool) → enc_receiver old (listener words a b since check mark owed good)
        ≡ (parts ring cells words).0 ∷ since ∷ own ∷ low ∷ count ∷ (control - control / 2 ^ 3 % 2 * 2 ^ 3 + bit mark * 2 ^ 3)
        ∷ (status + a + b * 2 ^ 2 + bit owed * 2 ^ 6 + bit good * 2 ^ 8 - (status % 2 ^ 4 + status / 2 ^ 6 % 2 * 2 ^ 6 + status / 2 ^ 8 % 2 * 2 ^ 8)) ∷ check ∷ serial ∷ (parts ring cells words).1
    listener_window words a b since check mark owed good =
        let extension : (bits control 4 2 * 2 ^ 16 + low % 2 ^ 15 * 2) / 2 ^ 16 ≡ bits control 4 2 = omega arith in
        let low15 = k.low15 in
        let count15 = k.count15 in
        let accepting = k.accepting in
        let clear = k.clear in
        let e15 : status / 2 ^ 15 % 2 ≡ 0 = omega arith in
        same refl refl (flag_back own k.flag) (omega arith) (omega arith) (rw extension (control_with control (omega arith) (bit mark)))
        (status_with status (omega arith) a b (bit owed) (bit good) 0 ∙ rw e15 (omega arith)) refl (omega arith) (ap (λ (l : List ℕ). (parts ring l words).1) whole)

    abbrev words : Silo
    words = r.end.silo

    pub has_room_lem : ring < 4096 → has_room 64 words ≡ true
    has_room_lem room = lt-ltb (min 64 (ring / 64)) 64 (omega arith)

    -- its parts with a word more, and as they were
    more : (word : ℕ) → ring < 4096 → parts ring cells (put 64 words word) ≡ (with_one ring, set cells (behind ring) word)
    more word room = ap (λ (l : List ℕ). parts ring cells (put 64 (silo_of 64 ring l) word)) whole ∙ put_parts ring cells long k.most word room

    kept : parts ring cells words ≡ (ring, cells)
    kept = ap (λ (l : List ℕ). parts ring cells (silo_of 64 ring l)) whole ∙ same_parts ring cells long k.most

    -- it stored a word
    pub window_stored : (word : ℕ) → ring < 4096 → block < 128 → enc_receiver old (after_word r word)
        ≡ with_one ring ∷ (block + 1) ∷ own ∷ low ∷ count ∷ (control - control / 2 ^ 3 % 2 * 2 ^ 3) ∷ (status / 2 ^ 4 * 2 ^ 4 + 14) ∷ crc_word crc word ∷ serial ∷ set cells (behind ring) word
    window_stored word room short =
        let clear = k.clear in
        let is : after_word r word ≡ listener (put 64 words word) 2 3 (min 128 block + 1) (crc_word (crc % 2 ^ 16) word) false (bit_at status 6) (bit_at status 8) =
        rw k.opened refl in
        ap (enc_receiver old) is
        ∙ listener_window (put 64 words word) 2 3 (min 128 block + 1) (crc_word (crc % 2 ^ 16) word) false (bit_at status 6) (bit_at status 8)
        ∙ same (ap (λ (p : ℕ × List ℕ). p.0) (more word room)) (omega arith) refl refl refl (omega arith) (rw (bit_on (status / 2 ^ 6), bit_on (status / 2 ^ 8)) (omega arith))
        (ap (λ (n : ℕ). crc_word n word) (omega arith)) refl (ap (λ (p : ℕ × List ℕ). p.1) (more word room))

    -- it took a due CRC, with no verdict owed before
    pub window_taken : block ≡ 128 → status / 2 ^ 6 % 2 ≡ 0 → status / 2 ^ 8 % 2 ≡ 0 → enc_receiver old (after_crc r 2)
        ≡ ring ∷ block ∷ own ∷ low ∷ count ∷ control ∷ (status / 2 ^ 4 * 2 ^ 4 + 6 + 2 ^ 6 + 2 ^ 8) ∷ crc ∷ serial ∷ cells
    window_taken full free fresh =
        let clear = k.clear in
        let e15 : status / 2 ^ 15 % 2 ≡ 0 = omega arith in
        let is : after_crc r 2 ≡ listener words 2 1 (min 128 block) (crc % 2 ^ 16) (bit_at control 3) true true =
        rw (k.opened, e15, open_mark (bit_at control 3)) refl in
        ap (enc_receiver old) is
        ∙ listener_window words 2 1 (min 128 block) (crc % 2 ^ 16) (bit_at control 3) true true
        ∙ same (ap (λ (p : ℕ × List ℕ). p.0) kept) (omega arith) refl refl refl (rw (bit_on (control / 2 ^ 3)) (omega arith)) (omega arith) (omega arith) refl (ap (λ (p : ℕ × List ℕ). p.1) kept)

    -- it found it good
    pub window_restarted : status / 2 ^ 6 % 2 ≡ 1 → status / 2 ^ 8 % 2 ≡ 1 → enc_receiver old (after_due r)
        ≡ ring ∷ 0 ∷ own ∷ low ∷ count ∷ control ∷ (status / 2 ^ 4 * 2 ^ 4 + 14 - (2 ^ 6 + 2 ^ 8)) ∷ 0 ∷ serial ∷ cells
    window_restarted owed good =
        let clear = k.clear in
        let e15 : status / 2 ^ 15 % 2 ≡ 0 = omega arith in
        let is : after_due r ≡ listener words 2 3 0 0 (bit_at control 3) false false =
        rw (k.opened, e15, open_mark (bit_at control 3)) refl in
        ap (enc_receiver old) is
        ∙ listener_window words 2 3 0 0 (bit_at control 3) false false
        ∙ same (ap (λ (p : ℕ × List ℕ). p.0) kept) refl refl refl refl (rw (bit_on (control / 2 ^ 3)) (omega arith)) (omega arith) refl refl (ap (λ (p : ℕ × List ℕ). p.1) kept)
