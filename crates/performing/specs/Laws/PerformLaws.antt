-- What a call does is told by its record alone.
-- Assumes nothing.
use Rattle.std.specs.Prelude.{List, ◌++◌, ◌≡◌, refl, ℕ, ◌-◌, ◌*◌, ◌≤◌, length, drop}
use Rattle.std.proofs.Common.{ap, ◌∙◌, arith, length-drop}
use Rattle.std.proofs.lemmas.List.{drop-append-le}
use Rattle.pcl.specs.Face.{fit_face}
use Rattle.script.specs.SetUps.{set_up_of}
use Rattle.script.specs.Laws.RecordLaws.{Holds}
use Rattle.script.specs.Laws.SetUpLaws.{set_up_more}
use Rattle.script.specs.declared.calls.Call.{Call}
use Rattle.performing.specs.Perform.{Outcome, fit_done, performed}

-- a record has two bytes before its kind, and behind its kind and body come what the bytes go on with
pub performed_more : (bytes more cells memories : List ℕ) (call : Call) (n : ℕ) → n ≤ length bytes → 2 ≤ n → Holds call (n - 2)
    → ◌≡◌ {A = Outcome} (performed (bytes ++ more) cells memories call) (performed bytes cells memories call)
unfolding performed
performed_more bytes more cells memories (Call.Fit count) n inside some holds =
    let five : 5 ≤ length bytes = omega arith in
    let room : 3 * count ≤ length (drop 5 bytes) = rw length-drop (omega arith) in
    ap (λ (numbers : List ℕ). fit_done memories (fit_face cells numbers))
    (ap (λ (l : List ℕ). set_up_of l count) (drop-append-le 5 bytes more five) ∙ set_up_more (drop 5 bytes) more count room)
performed_more bytes more cells memories (Call.WordWrite unit offset word) n inside some holds = refl
performed_more bytes more cells memories (Call.WordRead unit offset) n inside some holds = refl
performed_more bytes more cells memories (Call.Slice mask parity) n inside some holds = refl
performed_more bytes more cells memories (Call.Move unit side) n inside some holds = refl
performed_more bytes more cells memories (Call.Period unit) n inside some holds = refl
performed_more bytes more cells memories (Call.Reset unit) n inside some holds = refl
performed_more bytes more cells memories (Call.ByteWrite unit offset byte) n inside some holds = refl
performed_more bytes more cells memories (Call.Level unit side) n inside some holds = refl
