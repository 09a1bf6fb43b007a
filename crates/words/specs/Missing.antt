-- Document 02, No. 3: "When a move sets NXL .. the address check must also give the 18-bit byte address it tried, and the move must hand it
-- up with its answer 0".
-- Assumes nothing.
use Rattle.std.specs.Prelude.{◌≡◌, ℕ, ◌/◌, ◌≤◌, Bool, true, false, Result, Ok, Err, Option, Some, None}
use Rattle.words.specs.declared.answers.Refusal.{Refusal}

-- of a side's NXL before and after a move, the load's address before it, and the memory's length in words: the answer has an address exactly
-- where this move set NXL, and it is the one tried, which lies outside the memory
abbrev pub HandsUp : Bool → Bool → ℕ → ℕ → Result (Option ℕ) Refusal → Type 0
HandsUp before after tried memory (Ok None) = after ≡ before
HandsUp before after tried memory (Ok (Some address)) = (before ≡ false) × (after ≡ true) × (address ≡ tried) × (memory ≤ tried / 2)
HandsUp before after tried memory (Err refusal) = after ≡ before
