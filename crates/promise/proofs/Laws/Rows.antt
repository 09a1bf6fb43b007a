-- The index is what `Opening` asks where two rows of 32 answers are equal, which the prover can compute of given cells.
-- Assumes nothing.
use Rattle.std.specs.Prelude.{List, ◌≡◌, ℕ, ◌+◌, ◌<◌, get_or}
use Rattle.std.proofs.Common.{sym, ap, ◌∙◌, zero-add}
use Rattle.cells.specs.Index.{Indexed, receiver_with, row, transmitter_with}
use Rattle.cells.specs.Layout.{count_in}
use Rattle.cells.specs.Search.{first_receiver, first_transmitter}
use Rattle.cells.proofs.Laws.IndexLaws.{row_at}

same : (f g : ℕ → ℕ) → row f 32 0 ≡ row g 32 0 → (a : ℕ) → a < 32 → f a ≡ g a
same f g e a h =
    let z : 0 + a ≡ a = zero-add a in
    sym (row_at f 32 0 a h ∙ ap f z) ∙ ap (λ (l : List ℕ). get_or l a 0) e ∙ row_at g 32 0 a h ∙ ap g z

pub rows_say : (cells : List ℕ) → row (transmitter_with cells) 32 0 ≡ row (first_transmitter cells (count_in cells)) 32 0
    → row (receiver_with cells) 32 0 ≡ row (first_receiver cells (count_in cells)) 32 0 → Indexed cells
rows_say cells t r =
    record {
      transmitter = same (transmitter_with cells) (first_transmitter cells (count_in cells)) t;
      receiver = same (receiver_with cells) (first_receiver cells (count_in cells)) r;
    }
