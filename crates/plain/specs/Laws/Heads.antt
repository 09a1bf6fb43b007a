-- A side's window as the nine cells of its head and the silo's cells, and how these are put into the lent cells.
-- Assumes nothing.
use Rattle.std.specs.Prelude.{◌≡◌, refl, List, [], ◌∷◌, ◌++◌, ℕ, suc, ◌+◌, ◌≤◌, ◌<◌, length, set, take, drop}
use Rattle.std.proofs.Common.{ap, sym, ◌∙◌, append_assoc, arith, add-one, length-set, length-append, length-take, length-drop, take-append-drop, drop-cons, take-add, drop-drop, take_at}
use Rattle.std.proofs.lemmas.List.{take-set-le, drop-set-add, set-append_left}
use Rattle.std.proofs.Math.Seq.{drop-append-add}
use Rattle.codec.specs.Head.{cells_of}
use Rattle.codec.specs.Window.{cell, window, splice}
use Rattle.codec.specs.declared.head.Head.{Head}
use Rattle.codec.specs.Laws.WindowLaws.{length_window, window_after}

-- nine cells from a place on
abbrev pub head_at : List ℕ → ℕ → List ℕ
head_at cells at =
    cell cells at
    ∷ cell cells (at + 1)
    ∷ cell cells (at + 2)
    ∷ cell cells (at + 3)
    ∷ cell cells (at + 4)
    ∷ cell cells (at + 5)
    ∷ cell cells (at + 6)
    ∷ cell cells (at + 7)
    ∷ cell cells (at + 8)
    ∷ []

module _ (cells : List ℕ) where
  step : (at next n : ℕ) {rest : List ℕ} → next ≡ at + 1 → at < length cells → window cells next n ≡ rest → window cells at (suc n) ≡ cell cells at ∷ rest
  step at next n e h p = rw (← p, e, add-one, drop-cons cells at 0 h)

  pub head_and_silo : (at : ℕ) → at + 73 ≤ length cells → window cells at 73 ≡ head_at cells at ++ window cells (at + 9) 64
  head_and_silo at fits =
      step at (at + 1) 72 refl (omega arith)
      (step (at + 1) (at + 2) 71 (omega arith) (omega arith)
      (step (at + 2) (at + 3) 70 (omega arith) (omega arith)
      (step (at + 3) (at + 4) 69 (omega arith) (omega arith)
      (step (at + 4) (at + 5) 68 (omega arith) (omega arith)
      (step (at + 5) (at + 6) 67 (omega arith) (omega arith)
      (step (at + 6) (at + 7) 66 (omega arith) (omega arith)
      (step (at + 7) (at + 8) 65 (omega arith) (omega arith)
      (step (at + 8) (at + 9) 64 (omega arith) (omega arith) refl))))))))

-- two lists put one after the other are put as one
pub splice_next : (xs : List ℕ) (at : ℕ) (ys zs : List ℕ) (b : ℕ) → b ≡ at + length ys → b + length zs ≤ length xs
    → splice (splice xs at ys) b zs ≡ splice xs at (ys ++ zs)
splice_next xs at ys zs b e fits =
    let p : length (take at xs ++ ys) ≡ b = simp (length-append, length-take) (omega arith) in
    let q : drop (b + length zs) (splice xs at ys) ≡ drop (at + length (ys ++ zs)) xs =
    let sum : at + length ys + length zs ≡ at + length (ys ++ zs) = simp length-append (omega arith) in
    rw (← p, drop-append-add (take at xs ++ ys) (drop (at + length ys) xs) (length zs), drop-drop) (ap (λ (n : ℕ). drop n xs) sum) in
    rw (take_at (take at xs ++ ys) (drop (at + length ys) xs) b p, q) (ap (λ (l : List ℕ). l ++ drop (at + length (ys ++ zs)) xs) (append_assoc (take at xs) ys zs))

-- a window put back changes nothing
pub put_back : (xs : List ℕ) (b n : ℕ) → b + n ≤ length xs → splice xs b (window xs b n) ≡ xs
put_back xs b n fits = rw (length_window xs b n fits, ← take-add b n xs) (take-append-drop (b + n) xs)

-- one cell set is its window put back with that cell set
pub set_in_window : (xs : List ℕ) (b n k x : ℕ) → k < n → b + n ≤ length xs → set xs (b + k) x ≡ splice xs b (set (window xs b n) k x)
set_in_window xs b n k x h fits =
    let w = window xs b n in
    let long : length (set w k x) ≡ n = length-set w k x ∙ length_window xs b n fits in
    let inside : k < length w = rw (length_window xs b n fits) h in
    let tail : set (drop b xs) k x ≡ set w k x ++ drop (b + n) xs =
    ap (λ (l : List ℕ). set l k x) (sym (take-append-drop n (drop b xs))) ∙ set-append_left w (drop n (drop b xs)) k x inside ∙ ap (λ (l : List ℕ). set w k x ++ l) (drop-drop n b xs) in
    sym (take-append-drop b (set xs (b + k) x))
    ∙ rw (take-set-le b xs (b + k) x (omega arith), drop-set-add b xs k x, tail, long) (sym (append_assoc (take b xs) (set w k x) (drop (b + n) xs)))

module _ (cells : List ℕ) (at : ℕ) (head : List ℕ) (long : length head ≡ 9) (fits : at + 73 ≤ length cells) where
  behind : window (splice cells at head) (at + 9) 64 ≡ window cells (at + 9) 64
  behind = window_after cells at head (at + 9) (omega arith) (omega arith) 64

  -- a head of nine cells put, and then the silo's cells as a function makes them of those before
  pub head_then_silo : (f : List ℕ → List ℕ) → length (f (window cells (at + 9) 64)) ≡ 64
      → splice (splice cells at head) (at + 9) (f (window (splice cells at head) (at + 9) 64)) ≡ splice cells at (head ++ f (window cells (at + 9) 64))
  head_then_silo f wide =
      ap (λ (l : List ℕ). splice (splice cells at head) (at + 9) (f l)) behind
      ∙ splice_next cells at head (f (window cells (at + 9) 64)) (at + 9) (omega arith) (omega arith)

  -- and then one of them set
  pub head_then_word : (k word : ℕ) → k < 64 → set (splice cells at head) (at + 9 + k) word ≡ splice cells at (head ++ set (window cells (at + 9) 64) k word)
  head_then_word k word h =
      set_in_window (splice cells at head) (at + 9) 64 k word h (simp (length-append, length-take, length-drop) (omega arith))
      ∙ head_then_silo (λ (l : List ℕ). set l k word) (length-set (window cells (at + 9) 64) k word ∙ length_window cells (at + 9) 64 (omega arith))

  -- and then nothing
  pub head_alone : splice cells at head ≡ splice cells at (head ++ window cells (at + 9) 64)
  head_alone =
      sym (put_back (splice cells at head) (at + 9) 64 (simp (length-append, length-take, length-drop) (omega arith)))
      ∙ head_then_silo (λ (l : List ℕ). l) (length_window cells (at + 9) 64 (omega arith))

-- a head stored, and the ring as it was
pub stored_alone : (cells : List ℕ) (at : ℕ) (h : Head) → at + 73 ≤ length cells
    → splice cells at (cells_of h) ≡ splice cells at (cells_of h ++ window cells (at + 9) 64)
stored_alone cells at h fits = head_alone cells at (cells_of h) refl fits

-- a head stored, and then one cell of the ring set
pub stored_with_word : (cells : List ℕ) (at : ℕ) (h : Head) → at + 73 ≤ length cells → (k word : ℕ) → k < 64
    → set (splice cells at (cells_of h)) (at + 9 + k) word ≡ splice cells at (cells_of h ++ set (window cells (at + 9) 64) k word)
stored_with_word cells at h fits k word few = head_then_word cells at (cells_of h) refl fits k word few
