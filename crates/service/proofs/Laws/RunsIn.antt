-- A run of plain words out of a receiver's silo, taken at once, is so many single moves.
-- Assumes nothing.
use Rattle.std.specs.Prelude.{true, not, ◌&&◌, ◌≡◌, refl, List, ℕ, zero, suc, ◌+◌, ◌-◌, ◌/◌, ◌^◌, ◌≤◌, ◌<◌, eqb, leb, length, get_or, set, drop, Result, Ok, Option, None}
use Rattle.std.proofs.Common.{ap, sym, ◌∙◌, add-zero, add-one, arith, le-leb, get_or-drop}
use Rattle.std.proofs.lemmas.List.Edits.{length-paste}
use Rattle.std.proofs.Math.Seq.{paste, paste-suc, paste-zero}
use Rattle.cells.specs.Fitted.{Fitted, receiver_cells}
use Rattle.cells.specs.Layout.{receiver_place, memory_length}
use Rattle.cells.specs.Laws.FrameLaws.{own_kept, memory_length_kept}
use Rattle.codec.specs.Receivers.{dec_receiver}
use Rattle.codec.specs.Window.{cell, window, splice}
use Rattle.codec.specs.Laws.WindowLaws.{cell_window, window_spliced}
use Rattle.laws.specs.Bits.{bit, bits, bit_at}
use Rattle.laws.specs.Pick.{past}
use Rattle.laws.specs.Laws.Both.{both, left_of, right_of}
use Rattle.moves.specs.Moving.{receiver_moved}
use Rattle.plain.specs.Places.{front}
use Rattle.plain.specs.Laws.Heads.{head_and_silo, put_back}
use Rattle.plain_moves.specs.Moving.{Plain, word_at}
use Rattle.plain_moves.proofs.Laws.MayMove.{may_in}
use Rattle.plain_moves.proofs.Laws.PlainMoves.{answered_there, in_moved, in_kept}
use Rattle.plain_moves.specs.Laws.Sides.{side}
use Rattle.receiver.specs.Moves as R
use Rattle.words.specs.declared.answers.Refusal.{Refusal}
use Rattle.service.specs.Transfers.{Lent, lent, received_on, receiver_moved_on, words_with, words_in}
use Rattle.service.specs.Laws.Heads.{with_fewer, front_fewer, fewer_next, fewer_some, fewer_whole}
use Rattle.service.specs.Laws.Splices.{splice_over}
use Rattle.service.proofs.Laws.Turns.{goes_on}
use Rattle.service.specs.Laws.RunsIn.{RunIn}

three : {a a' : Result (Option ℕ) Refusal} {b b' c c' : List ℕ} → a ≡ a' → b ≡ b' → c ≡ c' → ◌≡◌ {A = Result (Option ℕ) Refusal × List ℕ × List ℕ} (a, b, c) (a', b', c')
three a b c = rw (a, b, c)

-- ---- over numbers. The words that go are those of a list, which has the silo's from its oldest on

module _ (ring block own low count control status crc serial : ℕ) (silo source memory : List ℕ) where
  -- the cells of the side after so many words, and the memory
  abbrev pub side_in : ℕ → List ℕ
  side_in n = side (with_fewer ring n) block own (low + n) (count + n) control status crc serial silo

  abbrev pub memory_in : ℕ → List ℕ
  memory_in n = paste memory (word_at low control) source n

  -- so many plain words can go: the silo has them and none goes round, neither the address nor the count leaves its 15 bits, and the memory
  -- has a place for them
  pub record AbleIn (fitted n : ℕ) : Type 0 where
    pub plain : Plain block own 1 low count control (bit_at status 4)
    pub whole : ring < 4160
    pub may : R.may_move (dec_receiver (side ring block own low count control status crc serial silo)) ≡ true
    pub control16 : control < 2 ^ 16
    pub status16 : status < 2 ^ 16
    pub crc16 : crc < 2 ^ 16
    pub serial16 : serial < 2 ^ 16
    pub cells64 : length silo ≡ 64
    pub held : n ≤ ring / 64
    pub straight : front ring + n ≤ 64
    pub low15 : low + n ≤ 32767
    pub count15 : count + n ≤ 32767
    pub there : word_at low control + n ≤ fitted
    pub lends : fitted ≤ length memory
    pub enough : n ≤ length source
    pub words : (i : ℕ) → i < n → get_or silo (front ring + i) 0 ≡ get_or source i 0

  module _ (fitted n : ℕ) (able : AbleIn fitted n) (i : ℕ) (h : i < n) where
    may_still : R.may_move (dec_receiver (side_in i)) ≡ true
    may_still =
        let a = bit_at control 14 in
        let b = leb 64 ring in
        let c = eqb (bits status 9 6) 0 in
        let abc = may_in ring block own low count control status crc serial silo ∙ able.may in
        sym (may_in (with_fewer ring i) block own (low + i) (count + i) control status crc serial silo)
        ∙ both (both (left_of a b (left_of (a && b) c abc)) (le-leb 64 (with_fewer ring i) (fewer_some ring n i h able.held))) (right_of (a && b) c abc)

    pub side_moves : ◌≡◌ {A = Result (Option ℕ) Refusal × List ℕ × List ℕ} (answered_there (side_in i) (R.moved (dec_receiver (side_in i)) (memory_in i) fitted))
        (Ok None, side_in (i + 1), memory_in (i + 1))
    side_moves =
        let p = able.plain in
        let whole = fewer_whole ring n i h able.held able.whole in
        let place : word_at (low + i) control ≡ word_at low control + i = omega arith in
        let oldest = front_fewer ring n i h able.straight in
        let stored : set (memory_in i) (word_at (low + i) control) (get_or silo (front (with_fewer ring i)) 0) ≡ memory_in (i + 1) =
        rw (oldest, able.words i h, place, add-one i) (paste-suc memory (word_at low control) source i 0 (omega (arith, able.there, able.lends)) (omega (arith, able.enough))) in
        let fewer = fewer_next ring n i h able.held in
        let higher : low + i + 1 ≡ low + (i + 1) = omega arith in
        let counted : count + i + 1 ≡ count + (i + 1) = omega arith in
        let still : Plain block own 1 (low + i) (count + i) control (bit_at status 4) =
        record { since = p.since; single = p.single; low15 = omega (arith, able.low15); count15 = omega (arith, able.count15); loaded = p.loaded; goes = p.goes; marked = p.marked } in
        let moved =
        in_moved (with_fewer ring i) block own (low + i) (count + i) control status crc serial silo able.control16 able.status16 able.crc16 able.serial16
        able.cells64 (memory_in i) fitted (omega (arith, able.there)) still whole may_still in
        let kept =
        in_kept (with_fewer ring i) block own (low + i) (count + i) control status crc serial silo able.control16 able.status16 able.crc16 able.serial16
        able.cells64 (memory_in i) fitted (omega (arith, able.there)) still (fewer_some ring n i h able.held) whole in
        ap (answered_there (side_in i)) moved ∙ three refl (kept ∙ rw (fewer, higher, counted)) stored

-- ---- on the lent cells

one_move : (cells memory : List ℕ) (unit : ℕ) (w : List ℕ) (fitted : ℕ) (after stored : List ℕ) → receiver_cells cells unit ≡ w → memory_length cells unit ≡ fitted
    → R.may_move (dec_receiver w) ≡ true → ◌≡◌ {A = Result (Option ℕ) Refusal × List ℕ × List ℕ} (answered_there w (R.moved (dec_receiver w) memory fitted)) (Ok None, after, stored)
    → receiver_moved cells memory unit ≡ (Ok None, splice cells (receiver_place unit) after, stored)
one_move cells memory unit w fitted after stored here same may moved =
    let put : Result (Option ℕ) Refusal × List ℕ × List ℕ → Result (Option ℕ) Refusal × List ℕ × List ℕ = λ p. (p.0, splice cells (receiver_place unit) p.1, p.2) in
    sym
    (past _ (ap (λ (x : List ℕ). not (R.may_move (dec_receiver x))) here ∙ ap not may)
    (sym
    (ap (λ (x : List ℕ). put (answered_there x (R.moved (dec_receiver x) memory (memory_length cells unit)))) here
    ∙ ap (λ (k : ℕ). put (answered_there w (R.moved (dec_receiver w) memory k))) same
    ∙ ap put moved)))

-- of the side that the cells hold
abbrev pub Able : List ℕ → List ℕ → ℕ → ℕ → Type 0
Able cells memory unit n =
    let at = receiver_place unit in
    AbleIn (cell cells at) (cell cells (at + 1)) (cell cells (at + 2)) (cell cells (at + 3)) (cell cells (at + 4)) (cell cells (at + 5)) (cell cells (at + 6))
    (cell cells (at + 7)) (cell cells (at + 8)) (window cells (at + 9) 64) (drop (at + 9 + front (cell cells at)) cells) memory (memory_length cells unit) n

-- the words that stand there are the silo's
pub words_there : (cells : List ℕ) (at n : ℕ) → front (cell cells at) + n ≤ 64
    → (i : ℕ) → i < n → get_or (window cells (at + 9) 64) (front (cell cells at) + i) 0 ≡ get_or (drop (at + 9 + front (cell cells at)) cells) i 0
words_there cells at n straight i h =
    let sum : at + 9 + (front (cell cells at) + i) ≡ at + 9 + front (cell cells at) + i = omega arith in
    cell_window cells (at + 9) 64 (front (cell cells at) + i) (omega arith)
    ∙ ap (cell cells) sum
    ∙ sym (get_or-drop (at + 9 + front (cell cells at)) cells i 0)

module _ (cells memory : List ℕ) (unit : ℕ) (fitted : Fitted cells unit) where
  abbrev at : ℕ
  at = receiver_place unit

  abbrev source : List ℕ
  source = drop (at + 9 + front (cell cells at)) cells

  abbrev side_after : ℕ → List ℕ
  side_after =
      side_in (cell cells at) (cell cells (at + 1)) (cell cells (at + 2)) (cell cells (at + 3)) (cell cells (at + 4)) (cell cells (at + 5)) (cell cells (at + 6))
      (cell cells (at + 7)) (cell cells (at + 8)) (window cells (at + 9) 64) source memory

  abbrev pub cells_in : ℕ → List ℕ
  cells_in n = splice cells at (side_after n)

  abbrev pub stored : ℕ → List ℕ
  stored n = paste memory (word_at (cell cells (at + 3)) (cell cells (at + 5))) source n

  module _ (before n : ℕ) (few : before + n ≤ 64) (able : Able cells memory unit n) where
    long : (i : ℕ) → length (side_after i) ≡ 73
    long i = omega (arith, able.cells64)

    here_in : (i : ℕ) → receiver_cells (cells_in i) unit ≡ side_after i
    here_in i = window_spliced cells at (side_after i) 73 (long i) (omega arith)

    pub moves_on : (i : ℕ) → i < n → receiver_moved (cells_in i) (stored i) unit ≡ (Ok None, cells_in (i + 1), stored (i + 1))
    moves_on i h =
        let same : memory_length (cells_in i) unit ≡ memory_length cells unit =
        memory_length_kept cells (cells_in i) (own_kept cells unit fitted 77 (side_after i) (omega (arith, long i)) (omega arith)) unit in
        let may = may_still (cell cells at) (cell cells (at + 1)) (cell cells (at + 2)) (cell cells (at + 3)) (cell cells (at + 4)) (cell cells (at + 5)) (cell cells (at + 6))
        (cell cells (at + 7)) (cell cells (at + 8)) (window cells (at + 9) 64) source memory (memory_length cells unit) n able i h in
        let moved = side_moves (cell cells at) (cell cells (at + 1)) (cell cells (at + 2)) (cell cells (at + 3)) (cell cells (at + 4)) (cell cells (at + 5)) (cell cells (at + 6))
        (cell cells (at + 7)) (cell cells (at + 8)) (window cells (at + 9) 64) source memory (memory_length cells unit) n able i h in
        one_move (cells_in i) (stored i) unit (side_after i) (memory_length cells unit) (side_after (i + 1)) (stored (i + 1)) (here_in i) same may moved
        ∙ three refl (splice_over cells at (side_after i) (side_after (i + 1)) (long (i + 1) ∙ sym (long i)) (omega (arith, long i))) refl

    start : cells_in 0 ≡ cells
    start =
        let ring : with_fewer (cell cells at) 0 ≡ cell cells at = omega arith in
        let none : side_after 0 ≡ window cells at 73 =
        rw (ring, add-zero (cell cells (at + 3)), add-zero (cell cells (at + 4))) (sym (head_and_silo cells at (omega arith))) in
        ap (splice cells at) none ∙ put_back cells at 73 (omega arith)

    -- a word goes with each
    with_one : (i : ℕ) → words_with (cells_in i) unit ≡ 1
    with_one i = ap (λ (w : List ℕ). bit (dec_receiver w).end.load.loaded) (here_in i) ∙ ap bit able.plain.loaded

    pub run_in : (i : ℕ) → i ≤ n → words_in unit (65 - (before + i)) (before + i) (lent (cells_in i) (stored i)) ≡ words_in unit (65 - before) before (lent cells memory)
    run_in zero h =
        rw (add-zero before) (ap (λ (l : List ℕ). words_in unit (65 - before) before (lent l (stored 0))) start
        ∙ ap (λ (l : List ℕ). words_in unit (65 - before) before (lent cells l)) (sym (paste-zero memory (word_at (cell cells (at + 3)) (cell cells (at + 5))) source)))
    run_in (suc i) h =
        let next : before + suc i ≡ before + i + 1 = omega arith in
        rw (next, ← add-one i)
        (rw (with_one i) at
        (goes_on (receiver_moved_on unit) (λ (l : Lent). words_with l.cells unit) (before + i) (before + i) (omega arith) (lent (cells_in i) (stored i)) (sym (ap received_on (moves_on i h))) refl)
        ∙ run_in i (omega arith))

    pub ran_in : RunIn unit before cells memory (before + n) (cells_in n) (stored n)
    ran_in =
        record {
          few = few;
          length_same = memory_length_kept cells (cells_in n) (own_kept cells unit fitted 77 (side_after n) (omega (arith, long n)) (omega arith)) unit;
          memory_same = length-paste memory (word_at (cell cells (at + 3)) (cell cells (at + 5))) source n (omega (arith, able.there, able.lends)) able.enough;
          same = run_in n (omega arith);
        }
