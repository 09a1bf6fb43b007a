-- A slice tried in place: with None, which is always allowed, nothing was done; else there is its code B, and the slice is as defined.
-- Assumes nothing.
use Rattle.std.specs.Prelude.{Bool, List, ◌≡◌, ℕ, Option, Some, None}
use Rattle.words.specs.declared.codes.Codes.{Codes}
use Rattle.bus.specs.Slice.{heard_by}

abbrev pub HeardInPlace : List ℕ → ℕ → ℕ → ℕ → ℕ → Bool → Option ℕ → List ℕ → Type 0
HeardInPlace cells unit other from mask parity None after = after ≡ cells
HeardInPlace cells unit other from mask parity (Some b) after = ◌≡◌ {A = Codes × List ℕ} (record { a = 2; b = b }, after) (heard_by cells unit other from mask parity)
