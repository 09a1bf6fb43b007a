-- The arrangement: it has every transmitter's turns, and no two neighbours equal around the ring where none wants more than half.
-- Assumes nothing.
use Rattle.std.specs.Prelude.{true, false, List, [], ◌∷◌, ◌≡◌, refl, ℕ, zero, suc, ◌+◌, ◌-◌, ◌*◌, ◌/◌, ◌%◌, ◌≤◌, ◌<◌, eqb, ltb, length, replicate, get_or, take, drop}
use Rattle.std.proofs.Common.{sym, ap, ◌∙◌, arith, eqb-true, eq-eqb, ne_eqb, ltb-true, ltb-false, take-append-drop, length-append, length-drop, get_or-take, get_or-drop, length-take-le}
use Rattle.std.proofs.lemmas.Bool.{eqb-false}
use Rattle.std.proofs.lemmas.List.{length-replicate}
use Rattle.laws.specs.Pick.{pick, by}
use Rattle.shares.specs.Arranging.{turns_but, blocks_but, row_of, woven, woven_from, in_turn, largest, arranged}
use Rattle.shares.specs.Lists.{count, last_of, Loadable}
use Rattle.shares.specs.Refusals.{any_twice}
use Rattle.shares.specs.Wanted.{turns_for, total}
use Rattle.shares.specs.Laws.Counting.{count_append, count_block, eqb_comm}
use Rattle.shares.proofs.Laws.LargestLaws.{largest_most, largest_turns, largest_some}
use Rattle.shares.specs.Laws.NearLaws.{Near, near_block, near_blocks, absent_first, apart_blocks}
use Rattle.shares.specs.declared.wanted.Share.{Share}

-- ---- two lists in turn

pub count_woven : (a : ℕ) (xs ys : List ℕ) → count a (woven xs ys) ≡ count a xs + count a ys
unfolding count woven
count_woven a [] ys = omega arith
count_woven a (x ∷ xs) [] = omega arith
count_woven a (x ∷ xs) (y ∷ ys) = omega (arith, count_woven a xs ys)

pub length_woven : (xs ys : List ℕ) → length (woven xs ys) ≡ length xs + length ys
unfolding woven
length_woven [] ys = omega arith
length_woven (x ∷ xs) [] = omega arith
length_woven (x ∷ xs) (y ∷ ys) = omega (arith, length_woven xs ys)

-- the even places have the first list, the odd ones the second, where that is as long or shorter by one
woven_even : (xs ys : List ℕ) (i : ℕ) → i % 2 ≡ 0 → i < length xs + length ys → length ys ≤ length xs → length xs ≤ length ys + 1
    → get_or (woven xs ys) i 0 ≡ get_or xs (i / 2) 0
unfolding woven
woven_even [] ys i even inside less more = absurd (omega arith)
woven_even (x ∷ xs) [] zero even inside less more = refl
woven_even (x ∷ xs) [] (suc i) even inside less more = absurd (omega arith)
woven_even (x ∷ xs) (y ∷ ys) zero even inside less more = refl
woven_even (x ∷ xs) (y ∷ ys) (suc zero) even inside less more = absurd (omega arith)
woven_even (x ∷ xs) (y ∷ ys) (suc (suc i)) even inside less more =
    let e : suc (suc i) / 2 ≡ suc (i / 2) = omega arith in
    woven_even xs ys i (omega arith) (omega arith) (omega arith) (omega arith) ∙ sym (ap (λ (k : ℕ). get_or (x ∷ xs) k 0) e)

woven_odd : (xs ys : List ℕ) (i : ℕ) → i % 2 ≡ 1 → i < length xs + length ys → length ys ≤ length xs → length xs ≤ length ys + 1
    → get_or (woven xs ys) i 0 ≡ get_or ys (i / 2) 0
unfolding woven
woven_odd [] ys i odd inside less more = absurd (omega arith)
woven_odd (x ∷ xs) [] i odd inside less more = absurd (omega arith)
woven_odd (x ∷ xs) (y ∷ ys) zero odd inside less more = absurd (omega arith)
woven_odd (x ∷ xs) (y ∷ ys) (suc zero) odd inside less more = refl
woven_odd (x ∷ xs) (y ∷ ys) (suc (suc i)) odd inside less more =
    let e : suc (suc i) / 2 ≡ suc (i / 2) = omega arith in
    woven_odd xs ys i (omega arith) (omega arith) (omega arith) (omega arith) ∙ sym (ap (λ (k : ℕ). get_or (y ∷ ys) k 0) e)

-- ---- the two halves of a row in turn

module _ (row : List ℕ) where
  abbrev half : ℕ
  half = (length row + 1) / 2

  length_first : length (take half row) ≡ half
  length_first = length-take-le half row (omega arith)

  pub length_turn : length (in_turn row) ≡ length row
  length_turn = omega (arith, length_woven (take half row) (drop half row), length_first, length-drop half row)

  pub count_turn : (a : ℕ) → count a (in_turn row) ≡ count a row
  count_turn a = count_woven a (take half row) (drop half row) ∙ sym (count_append a (take half row) (drop half row)) ∙ ap (count a) (take-append-drop half row)

  pub even_turn : (i : ℕ) → i % 2 ≡ 0 → i < length row → get_or (in_turn row) i 0 ≡ get_or row (i / 2) 0
  even_turn i even inside =
      let firsts = length_first in
      let seconds = length-drop half row in
      woven_even (take half row) (drop half row) i even (omega arith) (omega arith) (omega arith)
      ∙ get_or-take half row (i / 2) 0 (omega arith)

  pub odd_turn : (i : ℕ) → i % 2 ≡ 1 → i < length row → get_or (in_turn row) i 0 ≡ get_or row (half + i / 2) 0
  odd_turn i odd inside =
      let firsts = length_first in
      let seconds = length-drop half row in
      woven_odd (take half row) (drop half row) i odd (omega arith) (omega arith) (omega arith) ∙ get_or-drop half row (i / 2) 0

  pub turn_at : (i : ℕ) → i < length row → get_or (in_turn row) i 0 ≡ get_or row (woven_from half i) 0
  turn_at i inside =
      by (eqb (i % 2) 0) (λ e. rw e (even_turn i (eqb-true (i % 2) 0 e) inside))
      (λ e. rw e (odd_turn i (omega (arith, eqb-false (i % 2) 0 e)) inside))

-- ---- neighbours of a row in turn: half a row apart, or one less. Equal ones are nearer than the longest block, which begins the row

module _ (row : List ℕ) (m : ℕ) (fits : 2 * m ≤ length row) (near : Near m row)
    (first : (i j : ℕ) → i < m → m ≤ j → j < length row → get_or row i 0 ≡ get_or row j 0 → ⊥) where
  pub turn_apart : (i : ℕ) → i + 1 < length (in_turn row) → get_or (in_turn row) i 0 ≡ get_or (in_turn row) (i + 1) 0 → ⊥
  turn_apart i more e =
      let long = length_turn row in
      let h = half row in
      by (eqb (i % 2) 0)
      (λ t.
      let even = eqb-true (i % 2) 0 t in
      let same : (i + 1) / 2 ≡ i / 2 = omega arith in
      let q : get_or row (i / 2) 0 ≡ get_or row (h + i / 2) 0 =
      sym (even_turn row i even (omega arith))
      ∙ e
      ∙ odd_turn row (i + 1) (omega arith) (omega arith)
      ∙ ap (λ (k : ℕ). get_or row (h + k) 0) same in
      omega (arith, near (i / 2) (h + i / 2) (omega arith) (omega arith) q))
      (λ t.
      let odd : i % 2 ≡ 1 = omega (arith, eqb-false (i % 2) 0 t) in
      let q : get_or row ((i + 1) / 2) 0 ≡ get_or row (h + i / 2) 0 =
      sym (even_turn row (i + 1) (omega arith) (omega arith)) ∙ sym e ∙ odd_turn row i odd (omega arith) in
      by (ltb ((i + 1) / 2) (h + i / 2))
      (λ s.
      let close = near ((i + 1) / 2) (h + i / 2) (ltb-true ((i + 1) / 2) (h + i / 2) s) (omega arith) q in
      first ((i + 1) / 2) (h + i / 2) (omega arith) (omega arith) (omega arith) q)
      (λ s. omega (arith, ltb-false ((i + 1) / 2) (h + i / 2) s)))

  pub turn_ring : 20 ≤ length row → last_of (in_turn row) ≡ get_or (in_turn row) 0 0 → ⊥
  turn_ring some e =
      let long = length_turn row in
      let h = half row in
      let l = length row - 1 in
      let end : length (in_turn row) - 1 ≡ l = omega arith in
      let begun : get_or (in_turn row) 0 0 ≡ get_or row 0 0 = even_turn row 0 refl (omega arith) in
      let last : get_or (in_turn row) l 0 ≡ get_or row 0 0 = sym (ap (λ (k : ℕ). get_or (in_turn row) k 0) end) ∙ e ∙ begun in
      by (eqb (l % 2) 0)
      (λ t.
      let even = eqb-true (l % 2) 0 t in
      omega (arith, near 0 (l / 2) (omega arith) (omega arith) (sym last ∙ even_turn row l even (omega arith))))
      (λ t.
      let odd : l % 2 ≡ 1 = omega (arith, eqb-false (l % 2) 0 t) in
      omega (arith, near 0 (h + l / 2) (omega arith) (omega arith) (sym last ∙ odd_turn row l odd (omega arith))))

-- ---- the row of a load

count_blocks : (a first : ℕ) (shares : List Share) → count a (blocks_but first shares) ≡ pick (eqb a first) 0 (turns_for a shares)
unfolding count blocks_but turns_for
count_blocks a first [] = by (eqb a first) (λ e. rw e) (λ e. rw e)
count_blocks a first (s ∷ shares) =
    let later = count_blocks a first shares in
    let parts = count_append a (replicate (turns_but first s) s.address) (blocks_but first shares) in
    let block = count_block a s.address (turns_but first s) in
    by (eqb a first)
    (λ e.
    by (eqb s.address a)
    (λ t.
    let q : turns_but first s ≡ 0 = rw (eq-eqb s.address first (eqb-true s.address a t ∙ eqb-true a first e)) in
    rw e (parts ∙ omega (arith, rw t at block, q, rw e at later)))
    (λ t. rw e (parts ∙ omega (arith, rw t at block, rw e at later))))
    (λ e.
    by (eqb s.address a)
    (λ t.
    let q : turns_but first s ≡ s.turns =
    rw (ne_eqb s.address first (λ (r : s.address ≡ first). eqb-false a first e (sym (eqb-true s.address a t) ∙ r))) in
    rw (e, t) (parts ∙ omega (arith, rw t at block, q, rw e at later)))
    (λ t. rw (e, t) (parts ∙ omega (arith, rw t at block, rw e at later))))

length_blocks : (first : ℕ) (shares : List Share) → length (blocks_but first shares) + turns_for first shares ≡ total shares
unfolding blocks_but turns_for total
length_blocks first [] = refl
length_blocks first (s ∷ shares) =
    let later = length_blocks first shares in
    let parts = length-append (replicate (turns_but first s) s.address) (blocks_but first shares) in
    let block = length-replicate (turns_but first s) s.address in
    by (eqb s.address first) (λ e. rw e (omega (arith, rw e at parts, rw e at block)))
    (λ e. rw e (omega (arith, rw e at parts, rw e at block)))

module _ (shares : List Share) (once : any_twice shares ≡ false) (some : 1 ≤ total shares) where
  abbrev big : Share
  big = largest shares

  abbrev row : List ℕ
  row = row_of big shares

  big_turns : turns_for big.address shares ≡ big.turns
  big_turns = largest_turns shares once (largest_some shares some)

  pub length_row : length row ≡ total shares
  length_row =
      omega
      (arith, length-append (replicate big.turns big.address) (blocks_but big.address shares), length-replicate big.turns big.address, length_blocks big.address shares, big_turns)

  count_row : (a : ℕ) → count a row ≡ turns_for a shares
  count_row a =
      let parts = count_append a (replicate big.turns big.address) (blocks_but big.address shares) in
      let block = count_block a big.address big.turns in
      let rest = count_blocks a big.address shares in
      by (eqb a big.address)
      (λ e.
      let t : eqb big.address a ≡ true = eqb_comm big.address a ∙ e in
      parts ∙ omega (arith, rw t at block, rw e at rest, ap (λ (k : ℕ). turns_for k shares) (eqb-true a big.address e), big_turns))
      (λ e.
      let t : eqb big.address a ≡ false = eqb_comm big.address a ∙ e in
      parts ∙ omega (arith, rw t at block, rw e at rest))

  near_row : Near big.turns row
  near_row =
      near_block big.turns big.address (blocks_but big.address shares) big.turns (omega arith)
      (absent_first big.address shares) (near_blocks big.address big.turns shares once (largest_most shares))

  pub length_arranged : length (arranged shares) ≡ total shares
  length_arranged = length_turn row ∙ length_row

  -- a load of 20 to 50 in which nobody wants more than half has a list
  pub arranged_loadable : 20 ≤ total shares → total shares ≤ 50 → 2 * big.turns ≤ total shares → Loadable shares (arranged shares)
  arranged_loadable least most fits =
      let long = length_arranged in
      let all = length_row in
      let halved : 2 * big.turns ≤ length row = omega arith in
      let apart = apart_blocks big.turns big.address (blocks_but big.address shares) (absent_first big.address shares) in
      record {
        least = omega arith;
        most = omega arith;
        exact = λ a. count_turn row a ∙ count_row a;
        apart = turn_apart row big.turns halved near_row apart;
        ring = turn_ring row big.turns halved near_row apart (omega arith);
      }
