-- A run of plain words into a transmitter's silo, put there at once, is so many single moves.
-- Assumes nothing.
use Rattle.std.specs.Prelude.{true, false, not, ◌&&◌, ◌||◌, ◌≡◌, refl, List, ℕ, zero, suc, ◌+◌, ◌-◌, ◌/◌, ◌^◌, ◌≤◌, ◌<◌, eqb, length, get_or, set, drop, Result, Ok, Option, None}
use Rattle.std.proofs.Common.{ap, sym, ◌∙◌, add-zero, le_of_lt, add-one, arith, lt-ltb, length-drop, get_or-drop}
use Rattle.std.proofs.lemmas.List.Edits.{length-paste}
use Rattle.std.proofs.Math.Seq.{paste, paste-suc, paste-zero}
use Rattle.cells.specs.Fitted.{Fitted, transmitter_cells}
use Rattle.cells.specs.Layout.{transmitter_place, memory_length}
use Rattle.cells.specs.Laws.FrameLaws.{own_kept, memory_length_kept}
use Rattle.codec.specs.Transmitters.{dec_transmitter}
use Rattle.codec.specs.Window.{cell, window, splice}
use Rattle.codec.specs.Laws.WindowLaws.{window_spliced}
use Rattle.laws.specs.Bits.{bits, bit_at}
use Rattle.laws.specs.Pick.{past}
use Rattle.laws.specs.Laws.Both.{both, left_of, right_of}
use Rattle.moves.specs.Moving.{transmitter_moved}
use Rattle.plain.specs.Places.{behind, with_one}
use Rattle.plain.specs.Laws.Heads.{head_and_silo, put_back}
use Rattle.plain_moves.specs.Moving.{Plain, room_by, word_at}
use Rattle.plain_moves.proofs.Laws.MayMove.{may_out}
use Rattle.plain_moves.proofs.Laws.PlainMoves.{answered, out_moved}
use Rattle.plain_moves.specs.Laws.Sides.{side}
use Rattle.transmitter.specs.Moves as T
use Rattle.words.specs.declared.answers.Refusal.{Refusal}
use Rattle.service.specs.Transfers.{Lent, lent, sent_on, transmitter_moved_on, words_out}
use Rattle.service.specs.Laws.Heads.{with_more, behind_more}
use Rattle.service.specs.Laws.Splices.{splice_over}
use Rattle.service.proofs.Laws.Turns.{goes_on}
use Rattle.service.specs.Laws.RunsOut.{RunOut}

-- ---- over numbers

within64 : (place n i long : ℕ) → i < n → place + n ≤ 64 → long ≡ 64 → place + i < long
within64 place n i long h straight e = omega arith

module _ (ring block own low count control status crc serial : ℕ) (silo memory : List ℕ) where
  -- the cells of the side after so many words
  abbrev pub side_out : ℕ → List ℕ
  side_out n =
      side (with_more ring n) block own (low + n) (count + n) control status crc serial (paste silo (behind ring) (drop (word_at low control) memory) n)

  -- so many plain words can go: there is room for them and none goes round, neither the address nor the count leaves its 15 bits, and the
  -- memory has them
  pub record AbleOut (fitted n : ℕ) : Type 0 where
    pub plain : Plain block own 32 low count control (bit_at control 13 || bit_at status 6)
    pub going : bit_at status 8 ≡ false
    pub settled : status < 2 ^ 15
    pub may : T.may_move (dec_transmitter (side ring block own low count control status crc serial silo)) ≡ true
    pub control16 : control < 2 ^ 16
    pub crc16 : crc < 2 ^ 16
    pub serial16 : serial < 2 ^ 16
    pub cells64 : length silo ≡ 64
    pub room : ring / 64 + n ≤ 64
    pub straight : behind ring + n ≤ 64
    pub low15 : low + n ≤ 32767
    pub count15 : count + n ≤ 32767
    pub there : word_at low control + n ≤ fitted
    pub lends : fitted ≤ length memory

  module _ (fitted n : ℕ) (able : AbleOut fitted n) (i : ℕ) (h : i < n) where
    may_still : T.may_move (dec_transmitter (side_out i)) ≡ true
    may_still =
        let a = bit_at control 14 && bit_at control 1 && eqb (bits status 9 6) 0 in
        let b = room_by ring in
        let c = not (bit_at control 7) in
        let d = not (bit_at status 8 && bit_at status 6) in
        let abcd = may_out ring block own low count control status crc serial silo ∙ able.may in
        let abc = left_of (a && b && c) d abcd in
        let room = able.room in
        sym (may_out (with_more ring i) block own (low + i) (count + i) control status crc serial (paste silo (behind ring) (drop (word_at low control) memory) i))
        ∙ both (both (both (left_of a b (left_of (a && b) c abc)) (lt-ltb (with_more ring i) 4096 (omega arith))) (right_of (a && b) c abc)) (right_of (a && b && c) d abcd)

    pub side_moves : ◌≡◌ {A = Result (Option ℕ) Refusal × List ℕ} (answered (side_out i) (T.moved (dec_transmitter (side_out i)) memory fitted)) (Ok None, side_out (i + 1))
    side_moves =
        let source = drop (word_at low control) memory in
        let p = able.plain in
        let long : length source ≡ length memory - word_at low control = length-drop (word_at low control) memory in
        let place : word_at (low + i) control ≡ word_at low control + i = omega arith in
        let word : get_or memory (word_at (low + i) control) 0 ≡ get_or source i 0 = rw place (sym (get_or-drop (word_at low control) memory i 0)) in
        let inside = within64 (behind ring) n i (length silo) h able.straight able.cells64 in
        let put : set (paste silo (behind ring) source i) (behind (with_more ring i)) (get_or memory (word_at (low + i) control) 0) ≡ paste silo (behind ring) source (i + 1) =
        rw (behind_more ring n i h able.straight, word, add-one i) (paste-suc silo (behind ring) source i 0 inside (omega (arith, able.there, able.lends))) in
        let more : with_one (with_more ring i) ≡ with_more ring (i + 1) = omega arith in
        let higher : low + i + 1 ≡ low + (i + 1) = omega arith in
        let counted : count + i + 1 ≡ count + (i + 1) = omega arith in
        out_moved (with_more ring i) block own (low + i) (count + i) control status crc serial (paste silo (behind ring) source i) able.control16 (omega (arith, able.settled)) able.crc16 able.serial16
        (length-paste silo (behind ring) source i (le_of_lt inside) (omega (arith, able.there, able.lends)) ∙ able.cells64) memory fitted (omega (arith, able.there))
        (record { since = p.since; single = p.single; low15 = omega (arith, able.low15); count15 = omega (arith, able.count15); loaded = p.loaded; goes = p.goes; marked = p.marked })
        able.going able.settled may_still
        ∙ ap (λ (l : List ℕ). (Ok None, l)) (rw (more, higher, counted, put))

-- ---- on the lent cells

one_move : (cells memory : List ℕ) (unit : ℕ) (w : List ℕ) (fitted : ℕ) (after : List ℕ) → transmitter_cells cells unit ≡ w → memory_length cells unit ≡ fitted
    → T.may_move (dec_transmitter w) ≡ true → ◌≡◌ {A = Result (Option ℕ) Refusal × List ℕ} (answered w (T.moved (dec_transmitter w) memory fitted)) (Ok None, after)
    → transmitter_moved cells memory unit ≡ (Ok None, splice cells (transmitter_place unit) after)
one_move cells memory unit w fitted after here same may moved =
    let put : Result (Option ℕ) Refusal × List ℕ → Result (Option ℕ) Refusal × List ℕ = λ p. (p.0, splice cells (transmitter_place unit) p.1) in
    sym
    (past _ (ap (λ (x : List ℕ). not (T.may_move (dec_transmitter x))) here ∙ ap not may)
    (sym
    (ap (λ (x : List ℕ). put (answered x (T.moved (dec_transmitter x) memory (memory_length cells unit)))) here
    ∙ ap (λ (k : ℕ). put (answered w (T.moved (dec_transmitter w) memory k))) same
    ∙ ap put moved)))

-- of the side that the cells hold
abbrev pub Able : List ℕ → List ℕ → ℕ → ℕ → Type 0
Able cells memory unit n =
    let at = transmitter_place unit in
    AbleOut (cell cells at) (cell cells (at + 1)) (cell cells (at + 2)) (cell cells (at + 3)) (cell cells (at + 4)) (cell cells (at + 5)) (cell cells (at + 6))
    (cell cells (at + 7)) (cell cells (at + 8)) (window cells (at + 9) 64) memory (memory_length cells unit) n

module _ (cells memory : List ℕ) (unit : ℕ) (fitted : Fitted cells unit) where
  abbrev at : ℕ
  at = transmitter_place unit

  abbrev side_after : ℕ → List ℕ
  side_after =
      side_out (cell cells at) (cell cells (at + 1)) (cell cells (at + 2)) (cell cells (at + 3)) (cell cells (at + 4)) (cell cells (at + 5)) (cell cells (at + 6))
      (cell cells (at + 7)) (cell cells (at + 8)) (window cells (at + 9) 64) memory

  abbrev pub cells_out : ℕ → List ℕ
  cells_out n = splice cells at (side_after n)

  module _ (before n : ℕ) (few : before + n ≤ 64) (able : Able cells memory unit n) where
    abbrev from : ℕ
    from = word_at (cell cells (at + 3)) (cell cells (at + 5))

    long : (i : ℕ) → i ≤ n → length (side_after i) ≡ 73
    long i h =
        let source = drop from memory in
        let l : length source ≡ length memory - from = length-drop from memory in
        let p = length-paste (window cells (at + 9) 64) (behind (cell cells at)) source i (omega (arith, able.straight, able.cells64)) (omega (arith, able.there, able.lends)) in
        omega (arith, p, able.cells64)

    pub moves_on : (i : ℕ) → i < n → transmitter_moved (cells_out i) memory unit ≡ (Ok None, cells_out (i + 1))
    moves_on i h =
        let here : transmitter_cells (cells_out i) unit ≡ side_after i = window_spliced cells at (side_after i) 73 (long i (omega arith)) (omega arith) in
        let same : memory_length (cells_out i) unit ≡ memory_length cells unit =
        memory_length_kept cells (cells_out i) (own_kept cells unit fitted 4 (side_after i) (omega (arith, long i (omega arith))) (omega arith)) unit in
        let may = may_still (cell cells at) (cell cells (at + 1)) (cell cells (at + 2)) (cell cells (at + 3)) (cell cells (at + 4)) (cell cells (at + 5)) (cell cells (at + 6))
        (cell cells (at + 7)) (cell cells (at + 8)) (window cells (at + 9) 64) memory (memory_length cells unit) n able i h in
        let moved = side_moves (cell cells at) (cell cells (at + 1)) (cell cells (at + 2)) (cell cells (at + 3)) (cell cells (at + 4)) (cell cells (at + 5)) (cell cells (at + 6))
        (cell cells (at + 7)) (cell cells (at + 8)) (window cells (at + 9) 64) memory (memory_length cells unit) n able i h in
        one_move (cells_out i) memory unit (side_after i) (memory_length cells unit) (side_after (i + 1)) here same may moved
        ∙ ap (λ (l : List ℕ). (Ok None, l)) (splice_over cells at (side_after i) (side_after (i + 1)) (long (i + 1) (omega arith) ∙ sym (long i (omega arith))) (omega (arith, long i (omega arith))))

    start : cells_out 0 ≡ cells
    start =
        let silo = window cells (at + 9) 64 in
        let none : side_after 0 ≡ window cells at 73 =
        rw (← paste-zero silo (behind (cell cells at)) (drop from memory), add-zero (cell cells at), add-zero (cell cells (at + 3)), add-zero (cell cells (at + 4))) (sym (head_and_silo cells at (omega arith))) in
        ap (splice cells at) none ∙ put_back cells at 73 (omega arith)

    pub run_out : (i : ℕ) → i ≤ n → words_out unit (65 - (before + i)) (before + i) (lent (cells_out i) memory) ≡ words_out unit (65 - before) before (lent cells memory)
    run_out zero h = rw (add-zero before) (ap (λ (l : List ℕ). words_out unit (65 - before) before (lent l memory)) start)
    run_out (suc i) h =
        let next : before + suc i ≡ before + i + 1 = omega arith in
        rw (next, ← add-one i)
        (goes_on (transmitter_moved_on unit) (λ (l : Lent). 1) (before + i) (before + i) (omega arith) (lent (cells_out i) memory) (sym (ap (sent_on memory) (moves_on i h))) refl
        ∙ run_out i (omega arith))

    pub ran_out : RunOut unit memory before cells (before + n) (cells_out n)
    ran_out =
        record {
          few = few;
          length_same =
              memory_length_kept cells (cells_out n) (own_kept cells unit fitted 4 (side_after n) (omega (arith, long n (omega arith))) (omega arith)) unit;
          same = run_out n (omega arith);
        }
