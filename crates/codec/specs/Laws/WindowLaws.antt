-- The laws of windows and splices. Those of what stands after a splice go by one: a splice within the first part of a list leaves
-- the second (`in_first`).
-- Assumes nothing.
use Rattle.std.specs.Prelude.{◌≡◌, List, [], ◌++◌, ℕ, ◌+◌, ◌-◌, ◌≤◌, ◌<◌, length, get_or, set, take, drop, replicate}
use Rattle.std.proofs.Common.{sym, ap, ◌∙◌, append_assoc, append-nil, zero-add, arith, add-one, length-append, length-take, length-drop, drop_of_length-le, take-append-drop, length-take-le, drop_at, take-take, get_or-take, get_or-drop, get_or-append-add}
use Rattle.std.proofs.Math.ListN.{get_or-append}
use Rattle.std.proofs.lemmas.List.{length-replicate, take-append-le, drop-append-le, drop-take}
use Rattle.std.proofs.Math.Seq.{take-append_seam, paste-suc}
use Rattle.codec.specs.Window.{cell, window, splice}

-- ---- a splice and its own window

module _ (xs : List ℕ) (at : ℕ) (ys : List ℕ) (fits : at + length ys ≤ length xs) where
  pub length_splice : length (splice xs at ys) ≡ length xs
  length_splice = simp (length-append, length-take, length-drop) (omega arith)

  pub window_splice : window (splice xs at ys) at (length ys) ≡ ys
  window_splice =
      rw (append_assoc, drop_at (take at xs) (ys ++ drop (at + length ys) xs) at (length-take-le at xs (omega arith)), take-append_seam)

-- the same, where its length is known
pub window_spliced : (xs : List ℕ) (at : ℕ) (ys : List ℕ) (n : ℕ) → length ys ≡ n → at + n ≤ length xs → window (splice xs at ys) at n ≡ ys
window_spliced xs at ys n long fits = rw (← long) (window_splice xs at ys (rw long fits))

pub length_window : (xs : List ℕ) (at n : ℕ) → at + n ≤ length xs → length (window xs at n) ≡ n
length_window xs at n fits = simp (length-take, length-drop) (omega arith)

-- ---- a splice and what stands after it

-- a splice within the first part of a list leaves the second
in_first : (p q : List ℕ) (at : ℕ) (ys : List ℕ) → at + length ys ≤ length p → splice (p ++ q) at ys ≡ splice p at ys ++ q
in_first p q at ys fits =
    let h : at ≤ length p = omega arith in
    rw (take-append-le at p q, drop-append-le (at + length ys) p q) (sym (append_assoc (take at p ++ ys) (drop (at + length ys) p) q))

module _ (xs : List ℕ) (at : ℕ) (ys : List ℕ) (b : ℕ) (apart : at + length ys ≤ b) (within : b ≤ length xs) where
  after : splice xs at ys ≡ splice (take b xs) at ys ++ drop b xs
  after =
      let h : at + length ys ≤ length (take b xs) = simp length-take (omega arith) in
      ap (λ (l : List ℕ). splice l at ys) (sym (take-append-drop b xs)) ∙ in_first (take b xs) (drop b xs) at ys h

  long : length (splice (take b xs) at ys) ≡ b
  long = let h : at + length ys ≤ length (take b xs) = simp length-take (omega arith) in
      length_splice (take b xs) at ys h ∙ length-take-le b xs within

  drop_after : drop b (splice xs at ys) ≡ drop b xs
  drop_after = rw after (drop_at (splice (take b xs) at ys) (drop b xs) b long)

  pub window_after : (n : ℕ) → window (splice xs at ys) b n ≡ window xs b n
  window_after n = ap (take n) drop_after

-- ---- a splice and what stands before it

pub window_before : (xs : List ℕ) (at : ℕ) (ys : List ℕ) (b n : ℕ) → b + n ≤ at → at ≤ length xs → window (splice xs at ys) b n ≡ window xs b n
window_before xs at ys b n apart within =
    let h : b + n ≤ length (take at xs) = simp length-take (omega arith) in
    rw (← drop-take b n (splice xs at ys), ← drop-take b n xs, append_assoc, take-append-le (b + n) (take at xs), take-take)

-- ---- a turn of a loop that writes a row, cell by cell

pub copied : (xs : List ℕ) (at : ℕ) (w : List ℕ) (i : ℕ) → at + i < length xs → i < length w
    → set (window xs at i ++ drop i w) i (get_or xs (at + i) 0) ≡ window xs at (i + 1) ++ drop (i + 1) w
copied xs at w i hx hw =
    let h : 0 + i < length w = omega arith in
    let k : i < length (drop at xs) = simp length-drop (omega arith) in
    rw (add-one, ← get_or-drop at xs i 0) (simp zero-add at (paste-suc w 0 (drop at xs) i 0 h k))

-- two lists put one after the other into as many zeros
pub laid : (n k : ℕ) (a b : List ℕ) → length a ≡ k → k + length b ≡ n → splice (splice (replicate n 0) 0 a) k b ≡ a ++ b
laid n k a b long fits =
    let z = drop (length a) (replicate {A = ℕ} n 0) in
    let e : drop (length a + length b) (a ++ z) ≡ [] =
    drop_of_length-le (a ++ z) {i = length a + length b} (simp (length-append, length-drop, length-replicate) (omega arith)) in
    rw (← long, zero-add (length a), take-append_seam a z, e, append-nil (a ++ b))

-- ---- cell by cell

pub cell_window : (xs : List ℕ) (at n k : ℕ) → k < n → cell (window xs at n) k ≡ cell xs (at + k)
cell_window xs at n k h = get_or-take n (drop at xs) k 0 h ∙ get_or-drop at xs k 0

module _ (xs : List ℕ) (at : ℕ) (ys : List ℕ) (fits : at + length ys ≤ length xs) where
  -- before the splice
  pub cell_before : (i : ℕ) → i < at → cell (splice xs at ys) i ≡ cell xs i
  cell_before i h =
      let k : i < length (take at xs) = simp length-take (omega arith) in
      ap (λ (l : List ℕ). cell l i) (append_assoc (take at xs) ys (drop (at + length ys) xs))
      ∙ get_or-append (take at xs) (ys ++ drop (at + length ys) xs) 0 i k
      ∙ get_or-take at xs i 0 h

  -- in it
  pub cell_inside : (k : ℕ) → k < length ys → cell (splice xs at ys) (at + k) ≡ cell ys k
  cell_inside k h =
      let rest = drop (at + length ys) xs in
      ap (λ (l : List ℕ). cell l (at + k)) (append_assoc (take at xs) ys rest)
      ∙ ap (λ (n : ℕ). cell (take at xs ++ (ys ++ rest)) (n + k)) (sym (length-take-le at xs (omega arith)))
      ∙ get_or-append-add (take at xs) (ys ++ rest) k 0
      ∙ get_or-append ys rest 0 k h

  -- after it, counted from its end
  pub cell_after : (k : ℕ) → cell (splice xs at ys) (at + length ys + k) ≡ cell xs (at + length ys + k)
  cell_after k =
      let l : length (take at xs ++ ys) ≡ at + length ys = simp (length-append, length-take) (omega arith) in
      ap (λ (n : ℕ). cell (splice xs at ys) (n + k)) (sym l)
      ∙ get_or-append-add (take at xs ++ ys) (drop (at + length ys) xs) k 0
      ∙ get_or-drop (at + length ys) xs k 0

  -- after it
  pub cell_past : (i : ℕ) → at + length ys ≤ i → cell (splice xs at ys) i ≡ cell xs i
  cell_past i h = let e : at + length ys + (i - (at + length ys)) ≡ i = omega arith in rw (← e) (cell_after (i - (at + length ys)))
