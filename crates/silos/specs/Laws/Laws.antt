-- The laws of a silo, once for every size.
-- Assumes nothing.
use Rattle.std.specs.Prelude.{true, false, ◌≡◌, refl, List, [], ◌∷◌, ◌++◌, ℕ, zero, suc, ◌+◌, ◌-◌, ◌≤◌, ◌<◌, eqb, ltb, length, get_or, take, drop, set, replicate}
use Rattle.std.proofs.Common.{sym, ap, ◌∙◌, le_of_suc-le-suc, not-suc-le-zero, add-one, sub-one, arith, ltb-true, eqb-true, length-set, length-append, length-take, length-drop, take-append-drop, take-suc-set, length-take-le, drop-set-lt, drop-drop}
use Rattle.std.proofs.lemmas.Bool.{eqb-false}
use Rattle.std.proofs.Math.ListN.{get_or-eq_default}
use Rattle.std.proofs.lemmas.List.{length-replicate, take-append-le, drop-append-le}
use Rattle.laws.specs.Pick.{either}
use Rattle.silos.specs.declared.Silo.{Silo}
use Rattle.silos.specs.Cells.{shifted}
use Rattle.silos.specs.Silo.{Sized, words, no_words, is_empty, has_room, oldest, put, taken}

-- ---- the cells

taken_put : (cells : List ℕ) (held w : ℕ) → held < length cells → take (held + 1) (set cells held w) ≡ take held cells ++ (w ∷ [])
taken_put cells held w h = rw add-one (take-suc-set cells held w h)

taken_shifted : (cells : List ℕ) (held : ℕ) → 0 < held → held ≤ length cells → take (held - 1) (shifted cells) ≡ drop 1 (take held cells)
taken_shifted cells zero pos top = absurd (not-suc-le-zero pos)
taken_shifted [] (suc k) pos top = absurd (not-suc-le-zero top)
taken_shifted (x ∷ xs) (suc k) pos top = rw sub-one (take-append-le k xs (0 ∷ []) (le_of_suc-le-suc top))

first_found : (cells : List ℕ) (held : ℕ) → 0 < held → held ≤ length cells → take held cells ≡ get_or cells 0 0 ∷ drop 1 (take held cells)
first_found cells zero pos top = absurd (not-suc-le-zero pos)
first_found [] (suc k) pos top = absurd (not-suc-le-zero top)
first_found (x ∷ xs) (suc k) pos top = refl

length_shifted : (cells : List ℕ) → 1 ≤ length cells → length (shifted cells) ≡ length cells
length_shifted cells some = simp (length-append, length-drop) (omega arith)

-- ---- zeros

zeros_fewer : (n : ℕ) → drop 1 (replicate {A = ℕ} n 0) ≡ replicate (n - 1) 0
zeros_fewer zero = refl
zeros_fewer (suc n) = rw sub-one

zeros_more : (n : ℕ) → replicate {A = ℕ} n 0 ++ (0 ∷ []) ≡ replicate (suc n) 0
zeros_more zero = refl
zeros_more (suc n) = ap (λ (l : List ℕ). 0 ∷ l) (zeros_more n)

-- past the words held there is none
pub past_words : (s : Silo) (i : ℕ) → s.held ≤ i → get_or (words s) i 0 ≡ 0
past_words s i h = get_or-eq_default (words s) 0 (simp length-take (omega arith))

-- ---- a silo keeps its size

module _ (size : ℕ) (most : size ≤ 64) where
  pub sized_none : Sized size no_words
  sized_none = record { most = omega arith; cells64 = length-replicate {A = ℕ} 64 0; rest = refl }

  pub sized_put : (s : Silo) (w : ℕ) → Sized size s → Sized size (put size s w)
  sized_put s w h =
      either (Sized size) (has_room size s)
      (λ room.
      let fewer : 64 - s.held - 1 ≡ 64 - (s.held + 1) = omega arith in
      record {
        most = omega (arith, ltb-true s.held size room);
        cells64 = simp length-set h.cells64;
        rest =
            drop-set-lt (s.held + 1) s.cells s.held w (omega arith)
            ∙ sym (drop-drop 1 s.held s.cells)
            ∙ ap (drop 1) h.rest
            ∙ zeros_fewer (64 - s.held)
            ∙ ap (λ (n : ℕ). replicate n 0) fewer;
      })
      (λ full. h)

  pub sized_taken : (s : Silo) → Sized size s → Sized size (taken s)
  sized_taken s h =
      either (Sized size) (is_empty s) (λ none. h)
      (λ some.
      let pos : 0 < s.held = omega (arith, eqb-false s.held 0 some) in
      let one : 1 + (s.held - 1) ≡ s.held = omega arith in
      let more : suc (64 - s.held) ≡ 64 - (s.held - 1) = omega arith in
      record {
        most = omega arith;
        cells64 = length_shifted s.cells (omega arith) ∙ h.cells64;
        rest =
            drop-append-le (s.held - 1) (drop 1 s.cells) (0 ∷ []) (simp length-drop (omega arith))
            ∙ ap (λ (l : List ℕ). l ++ (0 ∷ [])) (drop-drop (s.held - 1) 1 s.cells ∙ ap (λ (n : ℕ). drop n s.cells) one ∙ h.rest)
            ∙ zeros_more (64 - s.held)
            ∙ ap (λ (n : ℕ). replicate n 0) more;
      })

  -- ---- its words in order

  module _ (s : Silo) (h : Sized size s) where
    pub length_words : length (words s) ≡ s.held
    length_words = length-take-le s.held s.cells (omega arith)

    -- it is its words, and zeros behind them
    pub cells_are : s.cells ≡ words s ++ replicate (64 - s.held) 0
    cells_are = sym (take-append-drop s.held s.cells) ∙ ap (λ (l : List ℕ). words s ++ l) h.rest

    -- where there is room, the new word joins at the end
    pub words_put : (w : ℕ) → has_room size s ≡ true → words (put size s w) ≡ words s ++ (w ∷ [])
    words_put w room = simp room (taken_put s.cells s.held w (omega (arith, ltb-true s.held size room)))

    -- a full silo stays as it is
    pub put_full : (w : ℕ) → has_room size s ≡ false → put size s w ≡ s
    put_full w full = simp full

    -- the words are the oldest and those that taking leaves
    pub words_taken : is_empty s ≡ false → words s ≡ oldest s ∷ words (taken s)
    words_taken some =
        let pos : 0 < s.held = omega (arith, eqb-false s.held 0 some) in
        simp (some, taken_shifted s.cells s.held pos (omega arith)) (first_found s.cells s.held pos (omega arith))

    -- an empty silo holds none, and taking leaves it
    pub words_empty : is_empty s ≡ true → words s ≡ []
    words_empty none = rw (eqb-true s.held 0 none)

    pub taken_empty : is_empty s ≡ true → taken s ≡ s
    taken_empty none = simp none

    -- it is empty, or has room, by the number of its words
    pub empty_is : is_empty s ≡ eqb (length (words s)) 0
    empty_is = rw length_words

    pub room_is : has_room size s ≡ ltb (length (words s)) size
    room_is = rw length_words

-- two silos with the same words are the same
pub same_words : (size : ℕ) (most : size ≤ 64) (s t : Silo) → Sized size s → Sized size t → words s ≡ words t → s ≡ t
same_words size most s t hs ht e =
    let n : s.held ≡ t.held = sym (length_words size most s hs) ∙ ap length e ∙ length_words size most t ht in
    let c : s.cells ≡ t.cells =
    cells_are size most s hs ∙ ap (λ (l : List ℕ). l ++ replicate (64 - s.held) 0) e ∙ ap (λ (k : ℕ). words t ++ replicate (64 - k) 0) n ∙ sym (cells_are size most t ht) in
    made c n
  where
    made : {cells cells' : List ℕ} {held held' : ℕ} → cells ≡ cells' → held ≡ held'
        → ◌≡◌ {A = Silo} (record { cells = cells; held = held }) (record { cells = cells'; held = held' })
    made c n = rw (c, n)

pub words_none : words no_words ≡ []
words_none = refl
