-- A part of a window replaced, and the window put back: only that part of the cells is replaced.
-- Assumes nothing.
use Rattle.std.specs.Prelude.{List, ◌++◌, ◌≡◌, ℕ, ◌+◌, ◌≤◌, length, take, drop}
use Rattle.std.proofs.Common.{append_assoc, ap, sym, ◌∙◌, arith, length-take, length-drop, take-append-drop, take-add, take-take, drop-drop}
use Rattle.std.proofs.lemmas.List.{drop-append-le}
use Rattle.codec.specs.Window.{window, splice}
use Rattle.codec.specs.Laws.WindowLaws.{length_splice, length_window}

-- what stands past k of the first n cells, and past n
past_both : (zs : List ℕ) (k n : ℕ) → k ≤ n → n ≤ length zs → drop k (take n zs) ++ drop n zs ≡ drop k zs
past_both zs k n h fits =
    let l : k ≤ length (take n zs) = simp length-take (omega arith) in
    sym (drop-append-le k (take n zs) (drop n zs) l) ∙ ap (drop k) (take-append-drop n zs)

-- four parts, of which the outer two are each in two
joined : (a b y c d : List ℕ) → a ++ (b ++ y ++ c) ++ d ≡ (a ++ b) ++ y ++ (c ++ d)
joined a b y c d = simp append_assoc

pub part_put : (xs : List ℕ) (at n i : ℕ) (ys : List ℕ) → at + n ≤ length xs → i + length ys ≤ n
    → splice xs at (splice (window xs at n) i ys) ≡ splice xs (at + i) ys
part_put xs at n i ys fits inside =
    let zs = drop at xs in
    let w = window xs at n in
    let k = i + length ys in
    let long : length w ≡ n = length_window xs at n fits in
    let all : length (splice w i ys) ≡ n = length_splice w i ys (rw long inside) ∙ long in
    let room : n ≤ length zs = simp length-drop (omega arith) in
    let least : i ≤ n = omega arith in
    let assoc : at + i + length ys ≡ at + k = omega arith in
    rw (all, ← drop-drop n at xs, take-take i n zs least)
    (joined (take at xs) (take i zs) ys (drop k w) (drop n zs)
    ∙ rw (← take-add at i xs, past_both zs k n inside room, drop-drop k at xs, assoc))
