-- A move call at a fitted unit whose memory is lent whole: it is the side's own move. And what moves leave of the memories' lengths.
-- Assumes nothing.
use Rattle.std.specs.Prelude.{true, false, not, List, ◌≡◌, refl, ℕ, ◌≤◌, ◌<◌, eqb, leb, ltb, length, Result, Ok, Err, Option}
use Rattle.std.proofs.Common.{ap, sym, ◌∙◌, arith, length-set, leb-true, ltb-true}
use Rattle.cells.specs.Fitted.{receiver_of}
use Rattle.cells.specs.Layout.{count_in, memory_length}
use Rattle.cells.specs.Ranges.{in_range}
use Rattle.laws.specs.Pick.{by, either, past}
use Rattle.moves.specs.Moving.{receiver_moved, transmitter_moved}
use Rattle.moves.specs.Laws.Nothing.{receiver_memory}
use Rattle.pcl.specs.Sides.{move_call, received_by, sent_by}
use Rattle.receiver.specs.Moves as R
use Rattle.receiver.specs.declared.side.Receiver.{Receiver}
use Rattle.silos.specs.Silo.{oldest}
use Rattle.words.specs.Address.{place_of}
use Rattle.words.specs.declared.answers.Refusal.{Refusal}

-- ---- what it is

module _ (cells : List ℕ) (ok : in_range cells ≡ true) (memory : List ℕ) (unit : ℕ) (fitted : unit < count_in cells) (lent : memory_length cells unit ≤ length memory) where
  some : leb (count_in cells) unit ≡ false
  some = by (leb (count_in cells) unit) (λ e. absurd (omega (arith, leb-true (count_in cells) unit e))) (λ e. e)

  long : ltb (length memory) (memory_length cells unit) ≡ false
  long = by (ltb (length memory) (memory_length cells unit)) (λ e. absurd (omega (arith, ltb-true (length memory) (memory_length cells unit) e))) (λ e. e)

  pub sender_call : move_call cells memory unit 0 ≡ sent_by memory (transmitter_moved cells memory unit)
  sender_call = sym (past _ (ap not ok) (past _ some (past _ long refl)))

  pub receiver_call : move_call cells memory unit 1 ≡ received_by (receiver_moved cells memory unit)
  receiver_call = sym (past _ (ap not ok) (past _ some (past _ long refl)))

-- ---- the memory's length

placed : (r : Receiver) (memory : List ℕ) (place : Result ℕ ℕ) → length (R.moved_to r memory place).1 ≡ length memory
placed r memory (Ok at) = length-set memory at (oldest r.end.silo)
placed r memory (Err address) = refl

pub length_moved : (r : Receiver) (memory : List ℕ) (n : ℕ) → length (R.moved r memory n).1 ≡ length memory
length_moved r memory n =
    let P : R.Moved × List ℕ → Type 0 = λ v. length v.1 ≡ length memory in
    either P (not (R.may_move r)) (λ e. refl)
    (λ e. either P (not r.end.load.loaded) (λ e. refl) (λ e. placed r memory (place_of r.end.load.address.0 n)))

pub length_called : (cells memory : List ℕ) (unit side : ℕ) → length (move_call cells memory unit side).2 ≡ length memory
length_called cells memory unit side =
    let P : Result (Option ℕ) Refusal × List ℕ × List ℕ → Type 0 = λ v. length v.2 ≡ length memory in
    either P (not (in_range cells)) (λ e. refl)
    (λ e. either P (leb (count_in cells) unit) (λ e. refl)
    (λ e. either P (ltb (length memory) (memory_length cells unit)) (λ e. refl)
    (λ e. either P (eqb side 0) (λ e. refl)
    (λ e. either P (eqb side 1) (λ e. ap length (receiver_memory cells memory unit) ∙ length_moved (receiver_of cells unit) memory (memory_length cells unit)) (λ e. refl)))))
