-- Document 02, No. 3: "so the board and the script program can show it". The board collects a unit's received words, by the link's own
-- moves at its receiver, until one is answered 4; where an address outside the memory stops it, it answers with that address.
-- Assumes nothing.
use Rattle.std.specs.Prelude.{List, ℕ, zero, suc, Option, Some, None, Result, Ok, Err}
use Rattle.pcl.specs.Sides.{move_call}
use Rattle.words.specs.declared.answers.Refusal.{Refusal}
use Rattle.board.specs.declared.answers.CollectError.{CollectError}

abbrev pub Outcome : Type 0
Outcome = Result ℕ CollectError × List ℕ × List ℕ

-- a move answered 0 that met no missing address goes on, on the cells and the memory that it left; any other is the last. `done` is how
-- many went on before it
abbrev pub moved_then : ℕ → (List ℕ → List ℕ → Outcome) → Result (Option ℕ) Refusal × List ℕ × List ℕ → Outcome
moved_then done next (Ok None, cells, memory) = next cells memory
moved_then done next (Err Refusal.Nothing, cells, memory) = (Ok done, cells, memory)
moved_then done next (Ok (Some address), cells, memory) = (Err (CollectError.Missing address), cells, memory)
moved_then done next (Err refusal, cells, memory) = (Err (CollectError.Link refusal), cells, memory)

-- with so many moves left to make
unfoldable pub collect_from : ℕ → ℕ → ℕ → List ℕ → List ℕ → Outcome
collect_from zero done unit cells memory = (Ok done, cells, memory)
collect_from (suc left) done unit cells memory = moved_then done (collect_from left (suc done) unit) (move_call cells memory unit 1)

-- moves until 4, and 65 of them at most, so that the call ends whatever the cells hold: a receiver's silo holds 64 words, and a move that
-- goes on takes one out of it or sets BC OFL. That the last is then answered 4 is tried by tests/board/collect.c, and stated nowhere
abbrev pub collect_call : List ℕ → List ℕ → ℕ → Outcome
collect_call cells memory unit = collect_from 65 0 unit cells memory
