-- The loop around the ring: what a turn of it finds of the addresses from i on, the one before them being `previous`.
-- Assumes nothing.
use mathlib.Core.Bool.{true, false}
use mathlib.Core.List.{List}
use mathlib.Core.Path.{◌≡◌}
use Prim.Native.Nat.{ℕ, ◌+◌, ◌≤◌, ◌<◌}
use native.Mathlib.Numerals.{add-one}
use borrow.Author.Tests.{eq-eqb, ne_eqb}
use lib.ListN.{length, get_or, drop, drop_of_length-le}
use lib.Seq.{drop-cons}
use Rattle.master.specs.Ring.{differ}

module _ (previous : ℕ) (ring : List ℕ) (i : ℕ) where
  pub same : i < length ring → get_or ring i 0 ≡ previous → differ previous (drop i ring) ≡ false
  unfolding differ
  same h e = rw (drop-cons ring i 0 h, eq-eqb _ _ e)

  pub other : i < length ring → (get_or ring i 0 ≡ previous → ⊥) → differ previous (drop i ring) ≡ differ (get_or ring i 0) (drop (i + 1) ring)
  unfolding differ
  other h n = rw (add-one, drop-cons ring i 0 h, ne_eqb _ _ n)

  pub none_left : length ring ≤ i → differ previous (drop i ring) ≡ true
  unfolding differ
  none_left h = rw (drop_of_length-le ring h)
