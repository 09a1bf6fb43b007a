-- An open transmitter that goes on with its message, on the cells of its window: what the plain cases of a slice make of them.
-- Assumes nothing.
use Rattle.std.specs.Prelude.{Bool, true, false, ◌&&◌, ◌||◌, List, ◌∷◌, ◌≡◌, refl, ℕ, ◌+◌, ◌-◌, ◌*◌, ◌/◌, ◌%◌, ◌^◌, ◌≤◌, ◌<◌, min, eqb, length, get_or, take}
use Rattle.std.proofs.Common.{ap, ◌∙◌, arith, ne_eqb, take_all}
use Rattle.codec.specs.Ends.{load_of}
use Rattle.codec.specs.Rings.{silo_of}
use Rattle.codec.specs.Transmitters.{enc_transmitter, dec_transmitter}
use Rattle.laws.specs.Bits.{bit, bits, bit_at}
use Rattle.laws.specs.Laws.Fields.{bit_on}
use Rattle.sending.specs.Choice.{all_sent}
use Rattle.sending.specs.Events.{counted, restarted}
use Rattle.sending.specs.Hearing.{showing, after_sending}
use Rattle.sending.specs.declared.choice.Choice.{Choice}
use Rattle.sending.specs.Laws.Talking.{Talking}
use Rattle.silos.specs.Silo.{is_empty, oldest, taken}
use Rattle.silos.specs.declared.Silo.{Silo}
use Rattle.transmitter.specs.Bits.{commands_in, modes_in, faults_in, outcome_in}
use Rattle.transmitter.specs.Requests.{settled}
use Rattle.transmitter.specs.Side.{has_error}
use Rattle.transmitter.specs.declared.side.Transmitter.{Transmitter}
use Rattle.words.specs.Crc.{crc_word}
use Rattle.words.specs.Load.{words_left}
use Rattle.plain.specs.Places.{front, without_oldest}
use Rattle.plain.specs.Laws.Faults.{faultless}
use Rattle.plain.specs.Laws.PlaceLaws.{parts, same_parts, taken_parts, oldest_there}
use Rattle.plain_slices.specs.Laws.Kept.{control_with, status_with, same}

-- the mark of a BUSY side stays
busy : (mark sends : Bool) → (mark && (sends || true)) ≡ mark
busy true true = refl
busy true false = refl
busy false sends = refl

nothing_sent : (a b : Bool) → (a && b && false) ≡ false
nothing_sent true true = refl
nothing_sent true false = refl
nothing_sent false b = refl

module _ (ring block own low count control status crc serial : ℕ) (cells : List ℕ) where
  abbrev old : List ℕ
  old = ring ∷ block ∷ own ∷ low ∷ count ∷ control ∷ status ∷ crc ∷ serial ∷ cells

  abbrev t : Transmitter
  t = dec_transmitter old

  -- a transmitter whose own cell, load and bits are those of the window, with what a slice may change
  abbrev talker : Silo → ℕ → ℕ → ℕ → ℕ → Bool → Bool → Transmitter
  talker words a b since check mark awaiting =
      record {
        end = record {
          silo = words;
          load = load_of low count control;
          shown = record { a = a; b = b };
          opened = bit_at status 6;
          block = since;
          crc = check;
          mark = mark;
          serial = serial % 2 ^ 16;
        };
        commands = commands_in control;
        modes = modes_in control;
        faults = faults_in status;
        outcome = outcome_in status;
        channel = record { ending = false; awaiting = awaiting; destination = own % 32 };
      }

  -- open, with ST TXM, not ending, with no error; a word is held; and the cells are as a call writes them
  pub record Talks : Type 0 where
    pub some : 64 ≤ ring
    pub most : ring < 4160
    pub latched : own < 32
    pub low15 : low < 2 ^ 15
    pub count15 : count < 2 ^ 15
    pub started : control % 2 ≡ 1
    pub opened : status / 2 ^ 6 % 2 ≡ 1
    pub going : status / 2 ^ 8 % 2 ≡ 0
    pub faultless : bits status 9 6 ≡ 0

  module _ (k : Talks) (control16 : control < 2 ^ 16) (status16 : status < 2 ^ 16) (crc16 : crc < 2 ^ 16) (serial16 : serial < 2 ^ 16) (long : length cells ≡ 64) where
    no_error_lem : has_error t ≡ false
    no_error_lem = faultless status k.faultless

    pub talking : Talking t
    talking = record { opened = rw k.opened; started = rw k.started; no_error = no_error_lem }

    pub going : t.channel.ending ≡ false
    going = rw k.going

    pub not_empty : is_empty t.end.silo ≡ false
    not_empty = let s = k.some in ne_eqb (min 64 (ring / 64)) 0 (omega arith)

    pub more : all_sent t ≡ false
    more = rw not_empty (nothing_sent t.commands.start_transmission (eqb (words_left t.end.load) 0))

    -- the ring's cells are those of the window
    whole : take 64 cells ≡ cells
    whole = take_all 64 cells (omega arith)

    talker_window : (words : Silo) (a b since check : ℕ) (mark awaiting : Bool) → enc_transmitter old (talker words a b since check mark awaiting)
        ≡ (parts ring cells words).0 ∷ since ∷ own ∷ low ∷ count ∷ (control - control / 2 ^ 3 % 2 * 2 ^ 3 + bit mark * 2 ^ 3)
        ∷ (status % 2 ^ 15 / 2 ^ 4 * 2 ^ 4 + a + b * 2 ^ 2 + bit awaiting * 2 ^ 15) ∷ check ∷ serial ∷ (parts ring cells words).1
    talker_window words a b since check mark awaiting =
        let extension : (bits control 4 2 * 2 ^ 16 + low % 2 ^ 15 * 2) / 2 ^ 16 ≡ bits control 4 2 = omega arith in
        let latched = k.latched in
        let low15 = k.low15 in
        let count15 = k.count15 in
        let e8 = k.going in
        same refl refl (omega arith) (omega arith) (omega arith) (rw extension (control_with control control16 (bit mark)))
        (status_with status status16 a b (bit (bit_at status 6)) 0 (bit awaiting) ∙ rw (bit_on (status / 2 ^ 6)) (omega arith)) refl (omega arith) (ap (λ (l : List ℕ). (parts ring l words).1) whole)

    abbrev words : Silo
    words = t.end.silo

    pub oldest_is_lem : oldest words ≡ get_or cells (front ring) 0
    oldest_is_lem = ap (λ (l : List ℕ). oldest (silo_of 64 ring l)) whole ∙ oldest_there ring cells long k.most k.some

    -- its parts without the oldest word, and as they were
    left : parts ring cells (taken words) ≡ (without_oldest ring, cells)
    left = ap (λ (l : List ℕ). parts ring cells (taken (silo_of 64 ring l))) whole ∙ taken_parts ring cells long k.most k.some

    kept : parts ring cells words ≡ (ring, cells)
    kept = ap (λ (l : List ℕ). parts ring cells (silo_of 64 ring l)) whole ∙ same_parts ring cells long k.most

    -- its word was accepted
    pub window_sent : block < 128 → status < 2 ^ 15 → enc_transmitter old (settled (counted (showing t 2 3)))
        ≡ without_oldest ring ∷ (block + 1) ∷ own ∷ low ∷ count ∷ (control - control / 2 ^ 3 % 2 * 2 ^ 3) ∷ (status / 2 ^ 4 * 2 ^ 4 + 14)
        ∷ crc_word crc (get_or cells (front ring) 0) ∷ serial ∷ cells
    window_sent short free =
        let e15 : status / 2 ^ 15 % 2 ≡ 0 = omega arith in
        let is : settled (counted (showing t 2 3)) ≡ talker (taken words) 2 3 (min 128 block + 1) (crc_word (crc % 2 ^ 16) (oldest words)) false false =
        rw (no_error_lem, k.going, e15) refl in
        ap (enc_transmitter old) is
        ∙ talker_window (taken words) 2 3 (min 128 block + 1) (crc_word (crc % 2 ^ 16) (oldest words)) false false
        ∙ same (ap (λ (p : ℕ × List ℕ). p.0) left) (omega arith) refl refl refl (omega arith) (omega arith)
        (ap (λ (n : ℕ). crc_word n (oldest words)) (omega arith) ∙ ap (crc_word crc) oldest_is_lem) refl (ap (λ (p : ℕ × List ℕ). p.1) left)

    -- its due CRC was taken
    pub window_due : block ≡ 128 → status < 2 ^ 15 → enc_transmitter old (settled (showing (after_sending t Choice.DueCrc) 2 1))
        ≡ ring ∷ block ∷ own ∷ low ∷ count ∷ control ∷ (status / 2 ^ 4 * 2 ^ 4 + 6 + 2 ^ 15) ∷ crc ∷ serial ∷ cells
    window_due full free =
        let is : settled (showing (after_sending t Choice.DueCrc) 2 1) ≡ talker words 2 1 (min 128 block) (crc % 2 ^ 16) (bit_at control 3) true =
        rw (no_error_lem, k.going, k.opened, busy (bit_at control 3) (bit_at control 13), busy (bit_at control 3) (bit_at control 13)) refl in
        ap (enc_transmitter old) is
        ∙ talker_window words 2 1 (min 128 block) (crc % 2 ^ 16) (bit_at control 3) true
        ∙ same (ap (λ (p : ℕ × List ℕ). p.0) kept) (omega arith) refl refl refl (rw (bit_on (control / 2 ^ 3)) (omega arith)) (omega arith) (omega arith) refl (ap (λ (p : ℕ × List ℕ). p.1) kept)

    -- it was found good
    pub window_passed : block ≡ 128 → 2 ^ 15 ≤ status → enc_transmitter old (settled (restarted (showing (after_sending t Choice.DueCrc) 2 3)))
        ≡ ring ∷ 0 ∷ own ∷ low ∷ count ∷ control ∷ (status % 2 ^ 15 / 2 ^ 4 * 2 ^ 4 + 14) ∷ 0 ∷ serial ∷ cells
    window_passed full waits =
        let is : settled (restarted (showing (after_sending t Choice.DueCrc) 2 3)) ≡ talker words 2 3 0 0 (bit_at control 3) false =
        rw (no_error_lem, k.going, k.opened, busy (bit_at control 3) (bit_at control 13), busy (bit_at control 3) (bit_at control 13)) refl in
        ap (enc_transmitter old) is
        ∙ talker_window words 2 3 0 0 (bit_at control 3) false
        ∙ same (ap (λ (p : ℕ × List ℕ). p.0) kept) refl refl refl refl (rw (bit_on (control / 2 ^ 3)) (omega arith)) (omega arith) refl refl (ap (λ (p : ℕ × List ℕ). p.1) kept)
