-- A call for C: the number is the call's, packed, and all else is as the call leaves it.
-- Assumes nothing.
use Rattle.std.specs.Prelude.{List, ◌≡◌, ℕ, ◌≤◌, Option, Result, Ok, Err}
use Rattle.std.proofs.Common.{ap, ◌∙◌, arith}
use Rattle.pcl.specs.Numbers.{read_call_number, move_call_number}
use Rattle.words.specs.Answers.{number_of}
use Rattle.words.specs.declared.answers.Refusal.{Refusal}
use Rattle.board.specs.Numbers.{packed, packed_receive, receive_packed, packed_collect, collect_packed}
use Rattle.board.specs.declared.answers.CollectError.{CollectError}
use Rattle.board.specs.declared.answers.ReceiveError.{ReceiveError}
use Rattle.board.specs.declared.answers.Received.{Received}

pub packed_as : {A : Type 0} (number : A → ℕ) {n : ℕ} {answer : A} {after : List ℕ} {outcome : A × List ℕ} → n ≡ number answer
    → ◌≡◌ {A = A × List ℕ} (answer, after) outcome → ◌≡◌ {A = ℕ × List ℕ} (n, after) (packed number outcome)
packed_as number {after = after} e f = ap (λ (k : ℕ). (k, after)) e ∙ ap (packed number) f

pub packed_receive_lem : {n : ℕ} {answer : Result Received ReceiveError} {cells room : List ℕ} {outcome : Result Received ReceiveError × List ℕ × List ℕ} → n ≡ receive_packed answer
    → ◌≡◌ {A = Result Received ReceiveError × List ℕ × List ℕ} (answer, cells, room) outcome
    → ◌≡◌ {A = ℕ × List ℕ × List ℕ} (n, cells, room) (packed_receive outcome)
packed_receive_lem {cells = cells} {room = room} e f = ap (λ (k : ℕ). (k, cells, room)) e ∙ ap packed_receive f

pub packed_collect_lem : {n : ℕ} {answer : Result ℕ CollectError} {cells memory : List ℕ} {outcome : Result ℕ CollectError × List ℕ × List ℕ} → n ≡ collect_packed answer
    → ◌≡◌ {A = Result ℕ CollectError × List ℕ × List ℕ} (answer, cells, memory) outcome
    → ◌≡◌ {A = ℕ × List ℕ × List ℕ} (n, cells, memory) (packed_collect outcome)
packed_collect_lem {cells = cells} {memory = memory} e f = ap (λ (k : ℕ). (k, cells, memory)) e ∙ ap packed_collect f

-- a number of the link is small
pub refusal_number : (refusal : Refusal) → number_of refusal ≤ 9
refusal_number Refusal.NoUnit = omega arith
refusal_number Refusal.NoRegister = omega arith
refusal_number Refusal.ByteRefused = omega arith
refusal_number Refusal.Nothing = omega arith
refusal_number Refusal.BadSetUp = omega arith
refusal_number Refusal.BadMask = omega arith
refusal_number Refusal.NoRoom = omega arith
refusal_number Refusal.BadState = omega arith

pub link_number : (call : Result ℕ Refusal) → read_call_number call ≤ 9
link_number (Ok word) = omega arith
link_number (Err refusal) = refusal_number refusal

pub move_number : (call : Result (Option ℕ) Refusal) → move_call_number call ≤ 9
move_number (Ok missing) = omega arith
move_number (Err refusal) = refusal_number refusal
