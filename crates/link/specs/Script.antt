-- Document 01, The script program: what `link` prints for a whole input.
-- Assumes nothing.
use Rattle.std.specs.Prelude.{true, List, [], ◌++◌, ℕ, zero, suc, length, drop}
use Rattle.script.specs.Lines.{line_text}
use Rattle.script.specs.Records.{next_record}
use Rattle.script.specs.declared.calls.Found.{Found}
use Rattle.script.specs.declared.lines.Line.{Line}
use Rattle.performing.specs.Perform.{performed}

-- the line of what comes next in an input, and what is printed for the rest: after a call for the bytes behind its record, on the
-- cells and memories that it left; after `stop` and at the end of the input nothing. An input that has ended never wants more.
abbrev pub printed_from : (List ℕ → List ℕ → List ℕ → List ℕ) → List ℕ → List ℕ → List ℕ → Found → List ℕ
printed_from rest input cells memories (Found.Call call n) =
    let after = performed input cells memories call in line_text after.0 ++ rest (drop n input) after.1 after.2
printed_from rest input cells memories Found.End = []
printed_from rest input cells memories Found.Stop = line_text Line.Stop
printed_from rest input cells memories Found.More = []

-- what is printed for so many records at most
unfoldable pub printed_for : ℕ → List ℕ → List ℕ → List ℕ → List ℕ
printed_for zero input cells memories = []
printed_for (suc n) input cells memories = printed_from (printed_for n) input cells memories (next_record input true)

-- an input has no more records than bytes
abbrev pub printed : List ℕ → List ℕ → List ℕ → List ℕ
printed input cells memories = printed_for (length input) input cells memories
