-- The laws of a ring, once for every size.
-- Assumes nothing.
use Rattle.std.specs.Prelude.{◌≡◌, refl, ℕ, zero, suc, ◌+◌, ◌-◌, ◌%◌, ◌≤◌, ◌<◌, ltb, replicate}
use Rattle.std.proofs.Math.Path.{sym, ap}
use Rattle.std.proofs.Common.{◌∙◌, add-zero, suc-add, mod-lt, mod-eq_of_lt, sub-one, arith, lt-ltb, ltb-true, ltb-false, length-take, length-drop, length-set, take-append-drop, take-suc, drop-cons, drop-set-lt, get_or-take, get_or-drop, get_or-append-add}
use mathlib.Core.List.{List, [], ◌∷◌, ◌++◌, append_assoc, append-nil}
use Rattle.std.proofs.Math.Nat.{zero-add}
use Rattle.std.proofs.Math.Numerals.{add-one}
use Rattle.std.proofs.Math.ListN.{length, get_or, set, take, drop, get_or-append, length-append}
use Rattle.std.proofs.lemmas.List.{length-replicate, take-append-le, set-append_left, take-set-le, drop-set-add}
use Rattle.std.proofs.Math.Seq.{take_at, drop_at, take-append_seam, take-set-lt, get_or_at, paste-suc, length-take-le, take_all, take-nil, take-length, drop-length}
use Rattle.laws.specs.Pick.{by}
use Rattle.codec.specs.Rings.{around, round_from, start_in, length_in, start_for, start_next, in_order, laid_from, ring_cell}

-- ---- places

pub around_lt : (size s i : ℕ) → s < size → i ≤ size → around size (s + i) < size
around_lt size s i there h = by (ltb (s + i) size) (λ e. rw e (ltb-true _ _ e)) (λ e. rw e (omega (arith, ltb-false (s + i) size e)))

pub around_here : (size s : ℕ) → s < size → around size (s + 0) ≡ s
around_here size s there = rw (add-zero s, lt-ltb s size there)

pub start_lt : (size cell : ℕ) → 1 ≤ size → start_in size cell < size
start_lt size cell some = mod-lt (cell % 64) some

pub start_for_lt : (size cell held : ℕ) → 1 ≤ size → start_for size cell held < size
start_for_lt size cell held some = around_lt size (start_in size cell) _ (start_lt size cell some) (omega arith)

pub start_next_lt : (size cell : ℕ) → 1 ≤ size → start_next size cell < size
start_next_lt size cell some = around_lt size (start_in size cell) _ (start_lt size cell some) (omega (arith, some))

-- ---- a list turned round, and a cell of it set

turned : (a b : List ℕ) (n : ℕ) → length a ≡ n → round_from n (a ++ b) ≡ b ++ a
turned a b n long = rw (drop_at a b n long, take_at a b n long)

set_past : (xs ys : List ℕ) (j x : ℕ) → set (xs ++ ys) (length xs + j) x ≡ xs ++ set ys j x
set_past [] ys j x = rw zero-add
set_past (y ∷ xs) ys j x = rw suc-add (ap (λ (l : List ℕ). y ∷ l) (set_past xs ys j x))

module _ (ring : List ℕ) (s : ℕ) (there : s < length ring) where
  pub length_round : length (round_from s ring) ≡ length ring
  length_round = simp (length-append, length-take, length-drop) (omega arith)

  front : length (drop s ring) ≡ length ring - s
  front = length-drop s ring

  -- turned back
  pub round_back : round_from (length ring - s) (round_from s ring) ≡ ring
  round_back = turned (drop s ring) (take s ring) (length ring - s) front ∙ take-append-drop s ring

  module _ (i : ℕ) (h : i < length ring) where
    -- what stands there
    pub round_at : get_or (round_from s ring) i 0 ≡ get_or ring (around (length ring) (s + i)) 0
    round_at =
        by (ltb (s + i) (length ring))
        (λ e.
        let inside : i < length (drop s ring) = rw front (omega (arith, ltb-true (s + i) (length ring) e)) in
        rw e (get_or-append (drop s ring) (take s ring) 0 i inside ∙ get_or-drop s ring i 0))
        (λ e.
        let past : length ring ≤ s + i = ltb-false (s + i) (length ring) e in
        let j : i ≡ length (drop s ring) + (s + i - length ring) = rw front (omega arith) in
        rw e
        (ap (λ (n : ℕ). get_or (round_from s ring) n 0) j
        ∙ get_or-append-add (drop s ring) (take s ring) (s + i - length ring) 0
        ∙ get_or-take s ring (s + i - length ring) 0 (omega arith)))

    -- and the list with another word there
    pub round_set : (x : ℕ) → round_from s (set ring (around (length ring) (s + i)) x) ≡ set (round_from s ring) i x
    round_set x =
        by (ltb (s + i) (length ring))
        (λ e.
        let inside : i < length (drop s ring) = rw front (omega (arith, ltb-true (s + i) (length ring) e)) in
        rw (e, drop-set-add s ring i x, take-set-le s ring (s + i) x (omega arith)) (sym (set-append_left (drop s ring) (take s ring) i x inside)))
        (λ e.
        let past : length ring ≤ s + i = ltb-false (s + i) (length ring) e in
        let j : i ≡ length (drop s ring) + (s + i - length ring) = rw front (omega arith) in
        let near : s + i - length ring < s = omega arith in
        rw (e, drop-set-lt s ring (s + i - length ring) x near, take-set-lt s ring (s + i - length ring) x near)
        (sym (ap (λ (n : ℕ). set (round_from s ring) n x) j ∙ set_past (drop s ring) (take s ring) (s + i - length ring) x)))

-- a turn of the loop that puts the words in order
pub unrolled : (ring words : List ℕ) (s i : ℕ) → s < length ring → i < length ring → i < length words
    → set (take i (round_from s ring) ++ drop i words) i (get_or ring (around (length ring) (s + i)) 0) ≡ take (i + 1) (round_from s ring) ++ drop (i + 1) words
unrolled ring words s i there h room =
    let k : 0 + i < length words = omega arith in
    let l : i < length (round_from s ring) = rw (length_round ring s there) h in
    rw (add-one, ← round_at ring s there i h) (simp zero-add at (paste-suc words 0 (round_from s ring) i 0 k l))

-- the first words less the first
less_one : (n : ℕ) (xs : List ℕ) → drop 1 (take n xs) ≡ take (n - 1) (drop 1 xs)
less_one zero xs = refl
less_one (suc n) [] = sym (take-nil (suc n - 1))
less_one (suc n) (x ∷ xs) = ap (λ (k : ℕ). take k xs) (sym (sub-one (suc n)))

-- turned forth
pub round_forth : (xs : List ℕ) (s : ℕ) → s ≤ length xs → round_from s (round_from (length xs - s) xs) ≡ xs
round_forth xs s h =
    let n = length xs - s in
    let long : length (drop n xs) ≡ s = simp length-drop (omega arith) in
    turned (drop n xs) (take n xs) s long ∙ take-append-drop n xs

-- a cell of a list that is turned back
back_set : (xs : List ℕ) (s i x : ℕ) → s < length xs → i < length xs
    → set (round_from (length xs - s) xs) (around (length xs) (s + i)) x ≡ round_from (length xs - s) (set xs i x)
back_set xs s i x there h =
    let n = length xs - s in
    let ring = round_from n xs in
    let long : length ring ≡ length xs = simp (length-append, length-take, length-drop) (omega arith) in
    let s_in : s < length ring = rw long there in
    let i_in : i < length ring = rw long h in
    let after = set ring (around (length xs) (s + i)) x in
    let long_after : length after ≡ length xs = length-set ring (around (length xs) (s + i)) x ∙ long in
    let turned_is : round_from s after ≡ set xs i x =
    ap (λ (m : ℕ). round_from s (set ring (around m (s + i)) x)) (sym long)
    ∙ round_set ring s s_in i i_in x
    ∙ ap (λ (l : List ℕ). set l i x) (round_forth xs s (omega arith)) in
    sym (round_back after s (rw long_after there))
    ∙ ap (λ (m : ℕ). round_from (m - s) (round_from s after)) long_after
    ∙ ap (round_from n) turned_is

round_long : (n : ℕ) (xs : List ℕ) → length (round_from n xs) ≡ length xs
round_long n xs = simp (length-append, length-take, length-drop) (omega arith)

-- ---- words laid_from from a place on

-- what stands from a place on, with the first words replaced
abbrev over : List ℕ → List ℕ → List ℕ
over ws rot = ws ++ drop (length ws) rot

length_over : (ws rot : List ℕ) → length ws ≤ length rot → length (over ws rot) ≡ length rot
length_over ws rot h = simp (length-append, length-drop) (omega arith)

module _ (ring : List ℕ) (s : ℕ) (there : s < length ring) where
  abbrev filled : List ℕ → List ℕ
  filled ws = over ws (round_from s ring)

  length_filled : (ws : List ℕ) → length ws ≤ length ring → length (filled ws) ≡ length ring
  length_filled ws h = let r = length_round ring s there in length_over ws (round_from s ring) (rw r h) ∙ r

  pub length_laid : (ws : List ℕ) → length ws ≤ length ring → length (laid_from s ws ring) ≡ length ring
  unfolding laid_from
  length_laid ws h = round_long (length ring - s) (filled ws) ∙ length_filled ws h

  pub round_laid : (ws : List ℕ) → length ws ≤ length ring → round_from s (laid_from s ws ring) ≡ ws ++ drop (length ws) (round_from s ring)
  unfolding laid_from
  round_laid ws h =
      let long = length_filled ws h in
      ap (λ (n : ℕ). round_from s (round_from (n - s) (filled ws))) (sym long) ∙ round_forth (filled ws) s (rw long (omega arith))

  -- they are read from there on
  pub words_laid : (ws : List ℕ) → length ws ≤ length ring → take (length ws) (round_from s (laid_from s ws ring)) ≡ ws
  unfolding laid_from
  words_laid ws h = ap (take (length ws)) (round_laid ws h) ∙ take-append_seam ws (drop (length ws) (round_from s ring))

  -- no word leaves it as it was
  pub laid_none : laid_from s [] ring ≡ ring
  unfolding laid_from
  laid_none = round_back ring s there

  -- one word more
  pub laid_more : (ws : List ℕ) (i : ℕ) → i < length ws → i < length ring
      → set (laid_from s (take i ws) ring) (around (length ring) (s + i)) (get_or ws i 0) ≡ laid_from s (take (i + 1) ws) ring
  unfolding laid_from
  laid_more ws i inside room =
      let rot = round_from s ring in
      let long_rot = length_round ring s there in
      let li : length (take i ws) ≡ i = length-take-le i ws (omega arith) in
      let li1 : length (take (i + 1) ws) ≡ i + 1 = length-take-le (i + 1) ws (omega arith) in
      let xs = filled (take i ws) in
      let long : length xs ≡ length ring = length_filled (take i ws) (rw li (omega arith)) in
      let hd : 0 + i < length rot = rw long_rot (omega arith) in
      let step : set (take i ws ++ drop i rot) i (get_or ws i 0) ≡ take (i + 1) ws ++ drop (i + 1) rot =
      rw add-one (simp zero-add at (paste-suc rot 0 ws i 0 hd inside)) in
      ap (λ (n : ℕ). set (round_from (n - s) xs) (around n (s + i)) (get_or ws i 0)) (sym long)
      ∙ back_set xs s i (get_or ws i 0) (rw long there) (rw long room)
      ∙ ap (λ (n : ℕ). round_from (n - s) (set xs i (get_or ws i 0))) long
      ∙ ap (λ (n : ℕ). round_from (length ring - s) (set (take i ws ++ drop n rot) i (get_or ws i 0))) li
      ∙ ap (round_from (length ring - s)) step
      ∙ ap (λ (n : ℕ). round_from (length ring - s) (take (i + 1) ws ++ drop n rot)) (sym li1)

  -- the words that stand there leave it as it was
  pub laid_same : (n : ℕ) → n ≤ length ring → laid_from s (take n (round_from s ring)) ring ≡ ring
  unfolding laid_from
  laid_same n h =
      let rot = round_from s ring in
      let l : length (take n rot) ≡ n = length-take-le n rot (rw (length_round ring s there) h) in
      ap (λ (k : ℕ). round_from (length ring - s) (take n rot ++ drop k rot)) l
      ∙ ap (round_from (length ring - s)) (take-append-drop n rot)
      ∙ round_back ring s there

  -- and with one word behind them
  pub laid_put : (n x : ℕ) → n < length ring → laid_from s (take n (round_from s ring) ++ (x ∷ [])) ring ≡ set ring (around (length ring) (s + n)) x
  unfolding laid_from
  laid_put n x h =
      let rot = round_from s ring in
      let ws = take n rot ++ (x ∷ []) in
      let l : length (take n rot) ≡ n = length-take-le n rot (rw (length_round ring s there) (omega arith)) in
      let lw : length ws ≡ n + 1 = simp length-append (omega arith) in
      let first : take n ws ≡ take n rot = take_at (take n rot) (x ∷ []) n l in
      let last : get_or ws n 0 ≡ x = get_or_at (take n rot) x [] 0 n l in
      let all : take (n + 1) ws ≡ ws = take_all (n + 1) ws (omega (arith, lw)) in
      sym
      (ap (λ (r : List ℕ). set r (around (length ring) (s + n)) x) (sym (laid_same n (omega arith)))
      ∙ ap (λ (l : List ℕ). set (laid_from s l ring) (around (length ring) (s + n)) x) (sym first)
      ∙ ap (set (laid_from s (take n ws) ring) (around (length ring) (s + n))) (sym last)
      ∙ laid_more ws n (rw lw (omega arith)) h
      ∙ ap (λ (l : List ℕ). laid_from s l ring) all)

  -- one place further on
  pub round_next : round_from (around (length ring) (s + 1)) ring ≡ drop 1 (round_from s ring) ++ (get_or ring s 0 ∷ [])
  round_next =
      let x = get_or ring s 0 in
      let one : drop 1 (round_from s ring) ++ (x ∷ []) ≡ round_from (suc s) ring =
      ap (λ (l : List ℕ). drop 1 (l ++ take s ring) ++ (x ∷ [])) (drop-cons ring s 0 there)
      ∙ append_assoc (drop (suc s) ring) (take s ring) (x ∷ [])
      ∙ ap (λ (l : List ℕ). drop (suc s) ring ++ l) (sym (take-suc ring s 0 there)) in
      by (ltb (s + 1) (length ring))
      (λ e. rw (e, add-one s) (sym one))
      (λ e.
      let end : length ring ≡ suc s = omega (arith, ltb-false (s + 1) (length ring) e) in
      let zero_is : s + 1 - length ring ≡ 0 = omega arith in
      let whole : round_from (suc s) ring ≡ ring = ap (λ (n : ℕ). round_from n ring) (sym end) ∙ rw (drop-length ring, take-length ring) in
      rw (e, zero_is) (append-nil ring ∙ sym (one ∙ whole)))

  -- the oldest word taken leaves the others where they are
  pub words_next : (n : ℕ) → n ≤ length ring → take (n - 1) (round_from (around (length ring) (s + 1)) ring) ≡ drop 1 (take n (round_from s ring))
  words_next n h =
      let rot = round_from s ring in
      let room : n - 1 ≤ length (drop 1 rot) = rw (length-drop 1 rot, length_round ring s there) (omega arith) in
      ap (take (n - 1)) round_next ∙ take-append-le (n - 1) (drop 1 rot) (get_or ring s 0 ∷ []) room ∙ sym (less_one n rot)

-- ---- a silo's words, in and out

-- the words in order, and zeros behind them
pub length_in_order : (held start : ℕ) (ring : List ℕ) → start < length ring → held ≤ length ring → held ≤ 64 → length (in_order held start ring) ≡ 64
unfolding in_order
length_in_order held start ring there room most =
    let l : length (take held (round_from start ring)) ≡ held = length-take-le held (round_from start ring) (rw (length_round ring start there) room) in
    simp (length-append, length-replicate) (omega (arith, l))

-- so they come out of the loop, over zeros
drop_zeros : (n k : ℕ) → drop n (replicate {A = ℕ} (n + k) 0) ≡ replicate k 0
drop_zeros zero k = rw zero-add
drop_zeros (suc n) k = rw suc-add (drop_zeros n k)

pub unrolled_is : (held start : ℕ) (ring : List ℕ) → held ≤ 64 → take held (round_from start ring) ++ drop held (replicate 64 0) ≡ in_order held start ring
unfolding in_order
unrolled_is held start ring most =
    let e : held + (64 - held) ≡ 64 = omega arith in
    ap (λ (l : List ℕ). take held (round_from start ring) ++ l) (ap (λ (n : ℕ). drop held (replicate n 0)) (sym e) ∙ drop_zeros held (64 - held))

module _ (held start : ℕ) (ring : List ℕ) (there : start < length ring) (room : held ≤ length ring) where
  long : length (take held (round_from start ring)) ≡ held
  long = length-take-le held (round_from start ring) (rw (length_round ring start there) room)

  pub words_in_order : take held (in_order held start ring) ≡ take held (round_from start ring)
  unfolding in_order
  words_in_order = take_at (take held (round_from start ring)) (replicate (64 - held) 0) held long

  pub rest_in_order : drop held (in_order held start ring) ≡ replicate (64 - held) 0
  unfolding in_order
  rest_in_order = drop_at (take held (round_from start ring)) (replicate (64 - held) 0) held long

-- what is laid is read in order
pub laid_in_order : (start : ℕ) (words ring : List ℕ) → start < length ring → length words ≤ length ring
    → in_order (length words) start (laid_from start words ring) ≡ words ++ replicate (64 - length words) 0
unfolding in_order
laid_in_order start words ring there room = ap (λ (l : List ℕ). l ++ replicate (64 - length words) 0) (words_laid ring start there words room)

-- a cell of a start place and a length
pub cell_start : (size start held : ℕ) → start < size → size ≤ 64 → start_in size (ring_cell start held) ≡ start
cell_start size start held there most =
    let e : ring_cell start held % 64 ≡ start = omega arith in
    rw e (mod-eq_of_lt there)

pub cell_length : (size start held : ℕ) → start < size → size ≤ 64 → held ≤ size → length_in size (ring_cell start held) ≡ held
cell_length size start held there most room = omega arith
