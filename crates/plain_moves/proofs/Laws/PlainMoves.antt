-- A plain move on the lent cells: three cells of the head and at most one of the silo's ring are changed, and they are the cells of the side
-- that the rule gives, written in the place of the window that stood there.
-- Assumes nothing.
use Rattle.std.specs.Prelude.{Bool, true, false, not, ◌&&◌, ◌||◌, ◌≡◌, refl, List, ◌++◌, ℕ, ◌+◌, ◌^◌, ◌≤◌, ◌<◌, eqb, leb, ltb, length, get_or, set, Result, Ok, Option, None}
use Rattle.std.proofs.Common.{ap, sym, ◌∙◌, arith, ltb-true, leb-true, eqb-true, eq-eqb, ne_eqb}
use Rattle.std.proofs.lemmas.Bool.{not-true}
use Rattle.codec.specs.Receivers.{enc_receiver, dec_receiver, receiver_at}
use Rattle.codec.specs.Transmitters.{enc_transmitter, dec_transmitter, transmitter_at}
use Rattle.codec.specs.Window.{cell, window}
use Rattle.codec.specs.Laws.WindowLaws.{length_window, cell_window}
use Rattle.laws.specs.Bits.{bits, bit_at}
use Rattle.laws.specs.Laws.Both.{left_of, right_of}
use Rattle.plain.specs.Places.{front, behind, with_one, without_oldest}
use Rattle.receiver.specs.Moves as R
use Rattle.transmitter.specs.Moves as T
use Rattle.words.specs.declared.answers.Refusal.{Refusal}
use Rattle.plain_moves.specs.Moving.{Plain, PlainOut, PlainIn, room_by, word_at, head_moved}
use Rattle.plain.specs.Laws.Heads.{head_at, head_and_silo}
use Rattle.plain_moves.proofs.Laws.MayMove.{may_out, may_in}
use Rattle.plain_moves.specs.Laws.Moved.{one_more, one_fewer, parts_put, parts_taken, transmitter_moved, receiver_moved}
use Rattle.plain_moves.specs.Laws.Sides.{side, transmitter_kept, receiver_kept}

-- ---- what the test says

counts : (clear mark busy : Bool) → (clear ≡ true → mark ≡ false) → clear || busy ≡ true → mark && busy ≡ mark
counts true mark busy f e = rw (f refl)
counts false true true f e = refl
counts false true false f e = e
counts false false busy f e = refl

pub plain_says : (block own limit low count control : ℕ) (busy : Bool)
    → ltb block 129 && ltb own limit && ltb low 32767 && ltb count 32767 && eqb (bits control 1 2) 1 && (eqb (bits control 3 1) 0 || busy) ≡ true
    → Plain block own limit low count control busy
plain_says block own limit low count control busy ok =
    let a = ltb block 129 in
    let b = ltb own limit in
    let c = ltb low 32767 in
    let d = ltb count 32767 in
    let e = eqb (bits control 1 2) 1 in
    let f = eqb (bits control 3 1) 0 || busy in
    let abcde = left_of (a && b && c && d && e) f ok in
    let abcd = left_of (a && b && c && d) e abcde in
    let abc = left_of (a && b && c) d abcd in
    let ab = left_of (a && b) c abc in
    let two : bits control 1 2 ≡ 1 = eqb-true (bits control 1 2) 1 (right_of (a && b && c && d) e abcde) in
    record {
      since = omega (arith, ltb-true block 129 (left_of a b ab));
      single = ltb-true own limit (right_of a b ab);
      low15 = omega (arith, ltb-true low 32767 (right_of (a && b) c abc));
      count15 = omega (arith, ltb-true count 32767 (right_of (a && b && c) d abcd));
      loaded = eq-eqb (bits control 1 1) 1 (omega arith);
      goes = ne_eqb (bits control 2 1) 1 (omega arith);
      marked = counts (eqb (bits control 3 1) 0) (bit_at control 3) busy (λ z. ne_eqb (bits control 3 1) 1 (omega (arith, eqb-true (bits control 3 1) 0 z))) (right_of (a && b && c && d && e) f ok);
    }

same_pair : {a a' b b' : List ℕ} → a ≡ a' → b ≡ b' → ◌≡◌ {A = List ℕ × List ℕ} (a, b) (a', b')
same_pair a b = rw (a, b)

-- the answer and the cells of the side that a rule gives, in the place of a window that stood there, and for a receiver the memory
abbrev pub answered : List ℕ → T.Moved → Result (Option ℕ) Refusal × List ℕ
answered old m = (m.answer, enc_transmitter old m.side)

abbrev pub answered_there : List ℕ → R.Moved × List ℕ → Result (Option ℕ) Refusal × List ℕ × List ℕ
answered_there old m = (m.0.answer, enc_receiver old m.0.side, m.1)

-- ---- over numbers

module _ (ring block own low count control status crc serial : ℕ) (silo : List ℕ) where
  abbrev before : List ℕ
  before = side ring block own low count control status crc serial silo

  -- of what may move
  out_says : T.may_move (dec_transmitter before) ≡ true → (bit_at control 14 ≡ true) × (ring < 4096)
  out_says may =
      let a = bit_at control 14 in
      let b = bit_at control 1 in
      let c = eqb (bits status 9 6) 0 in
      let d = room_by ring in
      let e = not (bit_at control 7) in
      let f = not (bit_at status 8 && bit_at status 6) in
      let abcd = left_of (a && b && c && d) e (left_of (a && b && c && d && e) f (may_out ring block own low count control status crc serial silo ∙ may)) in
      (left_of a b (left_of (a && b) c (left_of (a && b && c) d abcd)), ltb-true ring 4096 (right_of (a && b && c) d abcd))

  in_says : R.may_move (dec_receiver before) ≡ true → 64 ≤ ring
  in_says may =
      let a = bit_at control 14 in
      let b = leb 64 ring in
      let c = eqb (bits status 9 6) 0 in
      leb-true 64 ring (right_of a b (left_of (a && b) c (may_in ring block own low count control status crc serial silo ∙ may)))

  module _ (control16 : control < 2 ^ 16) (status16 : status < 2 ^ 16) (crc16 : crc < 2 ^ 16) (serial16 : serial < 2 ^ 16) (cells64 : length silo ≡ 64) (memory : List ℕ) (fitted : ℕ)
      (there : word_at low control < fitted) where
    pub out_moved : Plain block own 32 low count control (bit_at control 13 || bit_at status 6) → bit_at status 8 ≡ false → status < 2 ^ 15
        → T.may_move (dec_transmitter before) ≡ true
        → ◌≡◌ {A = Result (Option ℕ) Refusal × List ℕ} (answered before (T.moved (dec_transmitter before) memory fitted))
        (Ok None, one_more ring block own low count control status crc serial silo (get_or memory (word_at low control) 0))
    out_moved p going settled may =
        let room = (out_says may).1 in
        let word = get_or memory (word_at low control) 0 in
        let a : bit_at status 15 ≡ false = ne_eqb (bits status 15 1) 1 (omega arith) in
        ap (answered before) (transmitter_moved ring block own low count control status crc serial silo cells64 (omega (arith, p.low15)) (omega (arith, p.count15)) p.loaded p.goes memory fitted there may (out_says may).0 room)
        ∙ ap (λ (l : List ℕ). (Ok None, l))
        (transmitter_kept (with_one ring) block own (low + 1) (count + 1) control status crc serial (set silo (behind ring) word)
        (record { since = p.since; low15 = omega arith; count15 = omega arith; control16 = control16; status16 = status16; crc16 = crc16; serial16 = serial16 })
        before (parts_put ring block own low count control status crc serial silo cells64 room word)
        p.single p.marked (rw going) (rw a))

    pub in_moved : Plain block own 1 low count control (bit_at status 4) → ring < 4160 → R.may_move (dec_receiver before) ≡ true
        → R.moved (dec_receiver before) memory fitted ≡ (R.done_with (dec_receiver (one_fewer ring block own low count control status crc serial silo)), set memory (word_at low control) (get_or silo (front ring) 0))
    in_moved p few may =
        receiver_moved ring block own low count control status crc serial silo cells64 (omega (arith, p.low15)) (omega (arith, p.count15)) p.loaded p.goes memory fitted there may (in_says may) few

    pub in_kept : Plain block own 1 low count control (bit_at status 4) → 64 ≤ ring → ring < 4160
        → enc_receiver before (dec_receiver (one_fewer ring block own low count control status crc serial silo)) ≡ one_fewer ring block own low count control status crc serial silo
    in_kept p some few =
        let none : own ≡ 0 = omega arith in
        receiver_kept (without_oldest ring) block own (low + 1) (count + 1) control status crc serial silo
        (record { since = p.since; low15 = omega arith; count15 = omega arith; control16 = control16; status16 = status16; crc16 = crc16; serial16 = serial16 })
        before (parts_taken ring block own low count control status crc serial silo cells64 some few)
        (rw none) p.marked

-- ---- at a place of the cells

module _ (cells : List ℕ) (at : ℕ) (fits : at + 73 ≤ length cells) where
  abbrev ring : ℕ
  ring = cell cells at

  abbrev low : ℕ
  low = cell cells (at + 3)

  abbrev control : ℕ
  control = cell cells (at + 5)

  abbrev status : ℕ
  status = cell cells (at + 6)

  abbrev silo : List ℕ
  silo = window cells (at + 9) 64

  cells64 : length silo ≡ 64
  cells64 = length_window cells (at + 9) 64 (omega arith)

  -- what the tests of a head say, each side's own beside those of both
  pub out_head : (head : Bool)
      → (head ≡ true → Plain (cell cells (at + 1)) (cell cells (at + 2)) 32 low (cell cells (at + 4)) control (bit_at control 13 || bit_at status 6))
      → head && not (bit_at status 8) && ltb status 32768 ≡ true → PlainOut cells at
  out_head head says ok =
      let a = not (bit_at status 8) in
      let b = ltb status 32768 in
      let first = left_of (head && a) b ok in
      record { head = says (left_of head a first); going = not-true (bit_at status 8) (right_of head a first); settled = omega (arith, ltb-true status 32768 (right_of (head && a) b ok)) }

  pub in_head : (head : Bool) → (head ≡ true → Plain (cell cells (at + 1)) (cell cells (at + 2)) 1 low (cell cells (at + 4)) control (bit_at status 4))
      → head && ltb ring 4160 ≡ true → PlainIn cells at
  in_head head says ok = record { head = says (left_of head (ltb ring 4160) ok); few = ltb-true ring 4160 (right_of head (ltb ring 4160) ok) }

  -- a transmitter that may move has room
  pub out_room : T.may_move (transmitter_at cells at) ≡ true → ring < 4096
  out_room may =
      (out_says ring (cell cells (at + 1)) (cell cells (at + 2)) low (cell cells (at + 4)) control status (cell cells (at + 7)) (cell cells (at + 8)) silo
      (ap (λ (w : List ℕ). T.may_move (dec_transmitter w)) (sym (head_and_silo cells at fits)) ∙ may)).1

  -- a receiver that may move has a word
  pub in_some : R.may_move (receiver_at cells at) ≡ true → 64 ≤ ring
  in_some may =
      in_says ring (cell cells (at + 1)) (cell cells (at + 2)) low (cell cells (at + 4)) control status (cell cells (at + 7)) (cell cells (at + 8)) silo
      (ap (λ (w : List ℕ). R.may_move (dec_receiver w)) (sym (head_and_silo cells at fits)) ∙ may)

  module _ (words : (i : ℕ) → cell cells i < 2 ^ 16) (memory : List ℕ) (fitted : ℕ) (there : word_at low control < fitted) where
    pub out_plain : PlainOut cells at → T.may_move (transmitter_at cells at) ≡ true
        → ◌≡◌ {A = Result (Option ℕ) Refusal × List ℕ} (answered (window cells at 73) (T.moved (transmitter_at cells at) memory fitted))
        (Ok None, head_moved cells at (with_one ring) ++ set silo (behind ring) (get_or memory (word_at low control) 0))
    out_plain p may =
        let same = head_and_silo cells at fits in
        ap (λ (w : List ℕ). answered w (T.moved (dec_transmitter w) memory fitted)) same
        ∙ out_moved ring (cell cells (at + 1)) (cell cells (at + 2)) low (cell cells (at + 4)) control status (cell cells (at + 7)) (cell cells (at + 8)) silo
        (words (at + 5)) (words (at + 6)) (words (at + 7)) (words (at + 8)) cells64 memory fitted there p.head p.going p.settled
        (ap (λ (w : List ℕ). T.may_move (dec_transmitter w)) (sym same) ∙ may)

    pub in_plain : PlainIn cells at → R.may_move (receiver_at cells at) ≡ true
        → ◌≡◌ {A = Result (Option ℕ) Refusal × List ℕ × List ℕ} (answered_there (window cells at 73) (R.moved (receiver_at cells at) memory fitted))
        (Ok None, head_moved cells at (without_oldest ring) ++ silo, set memory (word_at low control) (cell cells (at + 9 + front ring)))
    in_plain p may =
        let same = head_and_silo cells at fits in
        let first : get_or silo (front ring) 0 ≡ cell cells (at + 9 + front ring) = cell_window cells (at + 9) 64 (front ring) (omega arith) in
        let moved =
        in_moved ring (cell cells (at + 1)) (cell cells (at + 2)) low (cell cells (at + 4)) control status (cell cells (at + 7)) (cell cells (at + 8)) silo
        (words (at + 5)) (words (at + 6)) (words (at + 7)) (words (at + 8)) cells64 memory fitted there p.head p.few (ap (λ (w : List ℕ). R.may_move (dec_receiver w)) (sym same) ∙ may) in
        let kept =
        in_kept ring (cell cells (at + 1)) (cell cells (at + 2)) low (cell cells (at + 4)) control status (cell cells (at + 7)) (cell cells (at + 8)) silo
        (words (at + 5)) (words (at + 6)) (words (at + 7)) (words (at + 8)) cells64 memory fitted there p.head (in_some may) p.few in
        ap (λ (w : List ℕ). answered_there w (R.moved (dec_receiver w) memory fitted)) same
        ∙ ap (answered_there (head_at cells at ++ silo)) moved
        ∙ ap (λ (l : List ℕ × List ℕ). (Ok None, l.0, l.1)) (same_pair kept (ap (set memory (word_at low control)) first))
