-- What the functions that make up a line ensure.
-- Assumes nothing.
use Rattle.std.specs.Prelude.{List, ◌≡◌, ℕ, ◌+◌, ◌≤◌, length}
use Rattle.std.proofs.lemmas.List.Edits.{sets}
use Rattle.script.specs.declared.text.Writer.{Writer}

-- `out` with a text in it from `at` on, and the place after the text, which has at most so many bytes
pub record Put (out : List ℕ) (at : ℕ) (text : List ℕ) (most : ℕ) (next : ℕ) (after : List ℕ) : Type 0 where
  pub stands : after ≡ sets out at text
  pub goes : next ≡ at + length text
  pub room : next ≤ at + most
  pub same : length after ≡ length out

-- a writer before and after a text of at most so many bytes, which stands in the same room behind what stood there
pub record Written (old : Writer) (text : List ℕ) (most : ℕ) (new : Writer) : Type 0 where
  pub put : Put old.out.now old.at text most new.at new.out.now
  pub here : new.out.ghost_name ≡ old.out.ghost_name
