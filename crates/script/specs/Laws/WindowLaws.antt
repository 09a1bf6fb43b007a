-- Where a part of the window was kept, it stands at the front.
-- Assumes nothing.
use mathlib.Core.List.{List}
use Rattle.std.specs.Prelude.{◌≡◌, length, drop}
use Rattle.std.proofs.Common.{sym, ◌∙◌, arith}
use Rattle.std.proofs.Math.Path.{ap}
use Prim.Native.Nat.{ℕ, ◌-◌, ◌≤◌}
use borrow.Author.Tests.{le-ltb}
use Rattle.std.proofs.Math.ListN.{take, length-drop}
use Rattle.std.proofs.lemmas.List.Edits.{sets}
use Rattle.std.proofs.Math.Seq.{length-sets, length-take-le}
use Rattle.script.specs.Windows.{rest_kept}
use Rattle.script.specs.Laws.SetUpLaws.{front}

module _ (window : List ℕ) (at end : ℕ) (begins : at ≤ end) (inside : end ≤ length window) where
  kept : List ℕ
  kept = take (end - at) (drop at window)

  is_kept : rest_kept window at end ≡ (end - at, sets window 0 kept)
  unfolding kept
  is_kept = rw (le-ltb _ _ begins, le-ltb _ _ inside)

  kept_long : length kept ≡ end - at
  unfolding kept
  kept_long = length-take-le (end - at) (drop at window) (rw length-drop (omega arith))

  -- for what `keep_rest` answered and left
  pub rest_long : {left : ℕ} {after : List ℕ} → ◌≡◌ {A = ℕ × List ℕ} (left, after) (rest_kept window at end) → left ≡ end - at
  rest_long e = ap (λ (p : ℕ × List ℕ). p.0) (e ∙ is_kept)

  pub rest_same : {left : ℕ} {after : List ℕ} → ◌≡◌ {A = ℕ × List ℕ} (left, after) (rest_kept window at end) → length after ≡ length window
  rest_same e = ap (λ (p : ℕ × List ℕ). length p.1) (e ∙ is_kept) ∙ length-sets window 0 kept

  pub rest_stands : {left : ℕ} {after : List ℕ} → ◌≡◌ {A = ℕ × List ℕ} (left, after) (rest_kept window at end)
      → take left after ≡ take (end - at) (drop at window)
  unfolding kept
  rest_stands e =
      ap (λ (p : ℕ × List ℕ). take p.0 p.1) (e ∙ is_kept)
      ∙ ap (λ (n : ℕ). take n (sets window 0 kept)) (sym kept_long)
      ∙ front window kept (rw kept_long (omega arith))
