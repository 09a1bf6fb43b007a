-- A list written over at a place by one copy.
-- Assumes nothing.
use Rattle.std.specs.Prelude.{◌≡◌, List, [], ℕ, ◌+◌, ◌-◌, ◌≤◌, length, take, drop}
use Rattle.std.proofs.Common.{sym, arith, append_assoc, append-nil, length-drop, length-take-le, drop_at, drop-drop, drop_of_length-le}
use borrow.Rule.Slice.PartMut.{put_mid}
use Rattle.codec.specs.Window.{splice}

-- a part of a list written over is a splice
pub spliced : (xs : List ℕ) (at k n : ℕ) (ys : List ℕ) → k ≡ n → length ys ≡ n → put_mid at k xs ys ≡ splice xs at ys
spliced xs at k n ys same long = rw (same, ← long, drop-drop) (sym (append_assoc (take at xs) ys (drop (at + length ys) xs)))

-- all of a list from a place on written over
pub from_place : (xs : List ℕ) (at : ℕ) (ys : List ℕ) → at ≤ length xs → length ys ≡ length xs - at → drop at (put_mid at (length xs - at) xs ys) ≡ ys
from_place xs at ys within long =
    let none : drop (length xs - at) (drop at xs) ≡ [] = drop_of_length-le (drop at xs) (simp length-drop (omega arith)) in
    rw (none, append-nil ys) (drop_at (take at xs) ys at (length-take-le at xs within))
