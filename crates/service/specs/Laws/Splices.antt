-- A list put within a window, and a window put twice.
-- Assumes nothing.
use Rattle.std.specs.Prelude.{◌≡◌, List, ◌++◌, ℕ, ◌+◌, ◌≤◌, length, take, drop}
use Rattle.std.proofs.Common.{ap, sym, ◌∙◌, append_assoc, arith, length-append, length-take, take-append-drop, drop-drop, length-take-le, take_at, drop_at}
use Rattle.std.proofs.Math.Seq.{drop-append-add, take-append-add}
use Rattle.std.proofs.lemmas.List.{drop-append-le, take-append-le}
use Rattle.codec.specs.Window.{window, splice}
use Rattle.codec.specs.Laws.WindowLaws.{length_window, length_splice}

-- within the second of two parts
in_second : (p q : List ℕ) (b k : ℕ) (ys : List ℕ) → length p ≡ b → splice (p ++ q) (b + k) ys ≡ p ++ splice q k ys
in_second p q b k ys long =
    let sum : length p + k + length ys ≡ length p + (k + length ys) = omega arith in
    rw (← long, take-append-add p q k, sum, drop-append-add p q (k + length ys)) (simp append_assoc)

-- within the first
in_first : (p q : List ℕ) (at : ℕ) (ys : List ℕ) → at + length ys ≤ length p → splice (p ++ q) at ys ≡ splice p at ys ++ q
in_first p q at ys fits =
    let h : at ≤ length p = omega arith in
    rw (take-append-le at p q, drop-append-le (at + length ys) p q) (sym (append_assoc (take at p ++ ys) (drop (at + length ys) p) q))

pub splice_in_window : (xs : List ℕ) (b n k : ℕ) (ys : List ℕ) → k + length ys ≤ n → b + n ≤ length xs
    → splice xs (b + k) ys ≡ splice xs b (splice (window xs b n) k ys)
splice_in_window xs b n k ys h fits =
    let w = window xs b n in
    let r = drop (b + n) xs in
    let long : length w ≡ n = length_window xs b n fits in
    let inside : k + length ys ≤ length w = omega arith in
    let whole : xs ≡ take b xs ++ (w ++ r) =
    sym (take-append-drop b xs) ∙ ap (λ (l : List ℕ). take b xs ++ l) (sym (take-append-drop n (drop b xs)) ∙ ap (λ (l : List ℕ). w ++ l) (drop-drop n b xs)) in
    let wide : length (splice w k ys) ≡ n = length_splice w k ys inside ∙ long in
    ap (λ (l : List ℕ). splice l (b + k) ys) whole
    ∙ in_second (take b xs) (w ++ r) b k ys (length-take-le b xs (omega arith))
    ∙ ap (λ (l : List ℕ). take b xs ++ l) (in_first w r k ys inside)
    ∙ rw wide (sym (append_assoc (take b xs) (splice w k ys) r))

pub splice_over : (xs : List ℕ) (at : ℕ) (ys zs : List ℕ) → length zs ≡ length ys → at + length ys ≤ length xs
    → splice (splice xs at ys) at zs ≡ splice xs at zs
splice_over xs at ys zs same fits =
    let r = drop (at + length ys) xs in
    let head : length (take at xs ++ ys) ≡ at + length ys = simp (length-append, length-take) (omega arith) in
    let before : take at (splice xs at ys) ≡ take at xs =
    ap (take at) (append_assoc (take at xs) ys r) ∙ take_at (take at xs) (ys ++ r) at (length-take-le at xs (omega arith)) in
    rw (before, same) (ap (λ (l : List ℕ). take at xs ++ zs ++ l) (drop_at (take at xs ++ ys) r (at + length ys) head))
