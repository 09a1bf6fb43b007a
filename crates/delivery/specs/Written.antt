-- A memory with a message put in.
-- Assumes nothing.
use Rattle.std.specs.Prelude.{List, ◌++◌, ℕ, ◌+◌, length, take, drop}

-- demand 3's receiving memory: it holds exactly the message's words, from a word on, and is otherwise unchanged
abbrev pub written : List ℕ → ℕ → List ℕ → List ℕ
written memory start content = take start memory ++ content ++ drop (start + length content) memory
