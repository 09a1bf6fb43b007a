-- A silo's two parts in the cells, its cell and its ring, where they stand as a call writes them: the start place lies in the ring, and no
-- more words are held than it has cells. What each of them becomes where a word is put, where the oldest is taken, where it is taken and one
-- comes to the end, and where nothing is done. Once for every size.
-- Assumes nothing.
use Rattle.std.specs.Prelude.{true, false, ◌≡◌, refl, List, [], ◌∷◌, ◌++◌, ℕ, ◌+◌, ◌-◌, ◌*◌, ◌/◌, ◌%◌, ◌≤◌, ◌<◌, ltb, length, get_or, set, take, drop}
use Rattle.std.proofs.Common.{sym, ap, ◌∙◌, mod-eq_of_lt, arith, lt-ltb, le-ltb, ltb-false, ne_eqb, get_or-take}
use Rattle.laws.specs.Pick.{by}
use Rattle.silos.specs.Silo.{Sized, words, put, taken, oldest, is_empty, has_room}
use Rattle.silos.specs.Laws.Laws.{sized_taken, words_put, words_taken}
use Rattle.silos.specs.declared.Silo.{Silo}
use Rattle.codec.specs.Rings.{around, round_from, start_in, length_in, silo_of, start_for, start_next, laid_from, ring_cell}
use Rattle.codec.proofs.Laws.RingLaws.{around_lt, around_here, round_at, words_in_order, laid_same, laid_put, words_next}

-- the cell and the ring of a silo, in the place of those that stood there
abbrev pub silo_cells : ℕ → ℕ → List ℕ → Silo → ℕ × List ℕ
silo_cells size cell ring silo = (ring_cell (start_for size cell silo.held) silo.held, laid_from (start_for size cell silo.held) (words silo) ring)

-- after a slice
abbrev pub next_cells : ℕ → ℕ → List ℕ → Silo → ℕ × List ℕ
next_cells size cell ring silo = (ring_cell (start_next size cell) silo.held, laid_from (start_next size cell) (words silo) ring)

both : {a a' : ℕ} {b b' : List ℕ} → a ≡ a' → b ≡ b' → ◌≡◌ {A = ℕ × List ℕ} (a, b) (a', b')
both p q = rw (p, q)

-- the place behind the last word, from the second on
around_next : (size s n : ℕ) → s < size → 1 ≤ n → n ≤ size → around size (around size (s + 1) + (n - 1)) ≡ around size (s + n)
around_next size s n there one most =
    by (ltb (s + 1) size)
    (λ e. let sum : s + 1 + (n - 1) ≡ s + n = omega arith in rw (e, sum))
    (λ e.
    let end : s + 1 - size ≡ 0 = omega arith in
    let last : size ≤ s + 1 = ltb-false (s + 1) size e in
    let short : n - 1 < size = omega arith in
    let past : size ≤ s + n = omega arith in
    let sum : 0 + (n - 1) ≡ s + n - size = omega arith in
    rw (e, end, lt-ltb (0 + (n - 1)) size (omega arith), le-ltb (s + n) size past) sum)

module _ (size : ℕ) (some : 1 ≤ size) (most : size ≤ 64) (cell : ℕ) (ring : List ℕ) (long : length ring ≡ size) (few : cell / 64 ≤ size) (near : cell % 64 < size)
    (sized : Sized size (silo_of size cell ring)) where
  abbrev silo : Silo
  silo = silo_of size cell ring

  start_is : start_in size cell ≡ cell % 64
  start_is = mod-eq_of_lt near

  pub length_is : length_in size cell ≡ cell / 64
  length_is = omega arith

  there : cell % 64 < length ring
  there = rw long near

  room : cell / 64 ≤ length ring
  room = rw long few

  -- its words
  words_are : words silo ≡ take (cell / 64) (round_from (cell % 64) ring)
  words_are =
      rw (length_is, start_is) (words_in_order (cell / 64) (cell % 64) ring there room)

  whole : cell % 64 + cell / 64 * 64 ≡ cell
  whole = omega arith

  start_stays : (held : ℕ) → cell / 64 ≤ held → start_for size cell held ≡ cell % 64
  start_stays held h =
      let none : length_in size cell - held ≡ 0 = omega arith in
      rw (none, start_is) (around_here size (cell % 64) near)

  -- nothing is done
  pub same_cells : silo_cells size cell ring silo ≡ (cell, ring)
  same_cells =
      let s = start_stays (length_in size cell) (omega arith) in
      both (rw (s, length_is) whole) (rw (s, words_are) (laid_same ring (cell % 64) there (cell / 64) room))

  -- where a word is held
  module _ (one : 1 ≤ cell / 64) where
    not_empty : is_empty silo ≡ false
    not_empty = ne_eqb (length_in size cell) 0 (λ (q : length_in size cell ≡ 0). omega arith)

    -- the oldest
    pub oldest_is_lem : oldest silo ≡ get_or ring (cell % 64) 0
    oldest_is_lem =
        let held : 0 < length_in size cell = omega arith in
        let inside : 0 < length ring = omega arith in
        rw not_empty
        (sym (get_or-take (length_in size cell) silo.cells 0 0 held)
        ∙ ap (λ (l : List ℕ). get_or l 0 0) words_are
        ∙ get_or-take (cell / 64) (round_from (cell % 64) ring) 0 0 (omega arith)
        ∙ round_at ring (cell % 64) there 0 inside
        ∙ ap (λ (n : ℕ). get_or ring n 0) (around_here (length ring) (cell % 64) there))

    -- one place further on
    next_is : around size (cell % 64 + 1) ≡ around (length ring) (cell % 64 + 1)
    next_is = ap (λ (n : ℕ). around n (cell % 64 + 1)) (sym long)

    next_there : around (length ring) (cell % 64 + 1) < length ring
    next_there = around_lt (length ring) (cell % 64) 1 there (omega arith)

    words_left : words (taken silo) ≡ take (cell / 64 - 1) (round_from (around (length ring) (cell % 64 + 1)) ring)
    words_left =
        sym (ap (drop 1) (words_taken size most silo sized not_empty)) ∙ ap (drop 1) words_are ∙ sym (words_next ring (cell % 64) there (cell / 64) room)

    left_held : (taken silo).held ≡ cell / 64 - 1
    left_held = rw not_empty (ap (λ (n : ℕ). n - 1) length_is)

    -- it is taken
    pub taken_cells : silo_cells size cell ring (taken silo) ≡ (around size (cell % 64 + 1) + (cell / 64 - 1) * 64, ring)
    taken_cells =
        let gone : length_in size cell - (cell / 64 - 1) ≡ 1 = omega arith in
        let start : start_for size cell (taken silo).held ≡ around size (cell % 64 + 1) = rw (left_held, gone, start_is) refl in
        both (ap (λ (n : ℕ). ring_cell n (taken silo).held) start ∙ ap (ring_cell (around size (cell % 64 + 1))) left_held)
        (ap (λ (n : ℕ). laid_from n (words (taken silo)) ring) (start ∙ next_is)
        ∙ ap (λ (l : List ℕ). laid_from (around (length ring) (cell % 64 + 1)) l ring) words_left
        ∙ laid_same ring (around (length ring) (cell % 64 + 1)) next_there (cell / 64 - 1) (omega arith))

    -- and a word comes to the end
    pub turned_cells : (word : ℕ)
        → next_cells size cell ring (put size (taken silo) word) ≡ (around size (cell % 64 + 1) + cell / 64 * 64, set ring (around size (cell % 64 + cell / 64)) word)
    turned_cells word =
        let left = sized_taken size most silo sized in
        let less : has_room size (taken silo) ≡ true = lt-ltb (taken silo).held size (omega (arith, left_held)) in
        let held : (put size (taken silo) word).held ≡ cell / 64 = rw less (ap (λ (n : ℕ). n + 1) left_held ∙ omega arith) in
        let start : start_next size cell ≡ around size (cell % 64 + 1) = rw start_is refl in
        both (ap (λ (n : ℕ). ring_cell n (put size (taken silo) word).held) start ∙ ap (ring_cell (around size (cell % 64 + 1))) held)
        (ap (λ (n : ℕ). laid_from n (words (put size (taken silo) word)) ring) (start ∙ next_is)
        ∙ ap (λ (l : List ℕ). laid_from (around (length ring) (cell % 64 + 1)) l ring)
        (words_put size most (taken silo) left word less ∙ ap (λ (l : List ℕ). l ++ (word ∷ [])) words_left)
        ∙ laid_put ring (around (length ring) (cell % 64 + 1)) next_there (cell / 64 - 1) word (omega arith)
        ∙ ap (λ (n : ℕ). set ring n word) (around_next (length ring) (cell % 64) (cell / 64) there one room ∙ ap (λ (n : ℕ). around n (cell % 64 + cell / 64)) long))

  -- a word is put behind the others
  pub put_cells : (word : ℕ) → cell / 64 < size → silo_cells size cell ring (put size silo word) ≡ (cell + 64, set ring (around size (cell % 64 + cell / 64)) word)
  put_cells word less =
      let free : has_room size silo ≡ true = lt-ltb (length_in size cell) size (omega arith) in
      let held : (put size silo word).held ≡ cell / 64 + 1 = rw free (ap (λ (n : ℕ). n + 1) length_is) in
      let start : start_for size cell (put size silo word).held ≡ cell % 64 = start_stays (put size silo word).held (omega (arith, held)) in
      let sum : ring_cell (cell % 64) (cell / 64 + 1) ≡ cell + 64 = omega arith in
      both (ap (λ (n : ℕ). ring_cell n (put size silo word).held) start ∙ ap (ring_cell (cell % 64)) held ∙ sum)
      (ap (λ (n : ℕ). laid_from n (words (put size silo word)) ring) start
      ∙ ap (λ (l : List ℕ). laid_from (cell % 64) l ring) (words_put size most silo sized word free ∙ ap (λ (l : List ℕ). l ++ (word ∷ [])) words_are)
      ∙ laid_put ring (cell % 64) there (cell / 64) word (rw long less)
      ∙ ap (λ (n : ℕ). set ring (around n (cell % 64 + cell / 64)) word) long)
