-- The contract of each public function: what it promises of its outcome, for every argument and everything lent. It is all that the
-- function's `ensures` says.
-- An outcome is the answer, the cells as they are left, and for a move and a transfer the memory as it is left. What is lent to be read
-- alone, a set-up and the cells of a level, of a serial or of who wants service, stays as it was.
-- Assumes nothing.
use Rattle.std.specs.Prelude.{List, ◌≡◌, ℕ, Result, Option, Bool}
use Rattle.pcl.specs.Calls.{read_call, write_call, byte_call, reset_call, period_call}
use Rattle.pcl.specs.Face.{fit_face, slice_face, read_face, write_face, byte_face, reset_face, period_face, move_face, level_face, serial_face, wants_moves_face, wants_interrupts_face, transfer_face}
use Rattle.pcl.specs.Link.{fit_call, slice_call}
use Rattle.pcl.specs.Service.{wants_moves_call, wants_interrupts_call, transfer_call}
use Rattle.pcl.specs.Sides.{move_call, level_call, serial_call}
use Rattle.words.specs.declared.answers.Refusal.{Refusal}
use Rattle.words.specs.declared.answers.Write.{Write}
use Rattle.bus.specs.declared.slice.Given.{Given}
use Rattle.service.specs.declared.transfers.Transfer.{Transfer}

-- ---- for Rattle

abbrev pub FitOutcome : List ℕ → List ℕ → Result (Unit {0}) Refusal × List ℕ → Type 0
FitOutcome cells setup outcome = outcome ≡ fit_call cells setup

abbrev pub SliceOutcome : List ℕ → ℕ → ℕ → Result (Option Given) Refusal × List ℕ → Type 0
SliceOutcome cells mask parity outcome = outcome ≡ slice_call cells mask parity

abbrev pub ReadOutcome : List ℕ → ℕ → ℕ → Result ℕ Refusal × List ℕ → Type 0
ReadOutcome cells unit offset outcome = outcome ≡ read_call cells unit offset

abbrev pub WriteOutcome : List ℕ → ℕ → ℕ → ℕ → Result Write Refusal × List ℕ → Type 0
WriteOutcome cells unit offset word outcome = outcome ≡ write_call cells unit offset word

abbrev pub ByteOutcome : List ℕ → ℕ → ℕ → ℕ → Result Write Refusal × List ℕ → Type 0
ByteOutcome cells unit offset byte outcome = outcome ≡ byte_call cells unit offset byte

abbrev pub ResetOutcome : List ℕ → ℕ → Result (Unit {0}) Refusal × List ℕ → Type 0
ResetOutcome cells unit outcome = outcome ≡ reset_call cells unit

abbrev pub PeriodOutcome : List ℕ → ℕ → Result (Unit {0}) Refusal × List ℕ → Type 0
PeriodOutcome cells unit outcome = outcome ≡ period_call cells unit

abbrev pub MoveOutcome : List ℕ → List ℕ → ℕ → ℕ → Result (Option ℕ) Refusal × List ℕ × List ℕ → Type 0
MoveOutcome cells memory unit side outcome = outcome ≡ move_call cells memory unit side

abbrev pub LevelOutcome : List ℕ → ℕ → ℕ → Result Bool Refusal → Type 0
LevelOutcome cells unit side outcome = outcome ≡ level_call cells unit side

abbrev pub SerialOutcome : List ℕ → ℕ → ℕ → Result ℕ Refusal → Type 0
SerialOutcome cells unit side outcome = outcome ≡ serial_call cells unit side

abbrev pub WantsMovesOutcome : List ℕ → Result ℕ Refusal → Type 0
WantsMovesOutcome cells outcome = outcome ≡ wants_moves_call cells

abbrev pub WantsInterruptsOutcome : List ℕ → Result ℕ Refusal → Type 0
WantsInterruptsOutcome cells outcome = outcome ≡ wants_interrupts_call cells

abbrev pub TransferOutcome : List ℕ → List ℕ → ℕ → ℕ → Result Transfer Refusal × List ℕ × List ℕ → Type 0
TransferOutcome cells memory unit side outcome = outcome ≡ transfer_call cells memory unit side

-- ---- for C: the packed number

abbrev pub FitFaceOutcome : List ℕ → List ℕ → ℕ × List ℕ → Type 0
FitFaceOutcome cells setup outcome = outcome ≡ fit_face cells setup

abbrev pub SliceFaceOutcome : List ℕ → ℕ → ℕ → ℕ × List ℕ → Type 0
SliceFaceOutcome cells mask parity outcome = outcome ≡ slice_face cells mask parity

abbrev pub ReadFaceOutcome : List ℕ → ℕ → ℕ → ℕ × List ℕ → Type 0
ReadFaceOutcome cells unit offset outcome = outcome ≡ read_face cells unit offset

abbrev pub WriteFaceOutcome : List ℕ → ℕ → ℕ → ℕ → ℕ × List ℕ → Type 0
WriteFaceOutcome cells unit offset word outcome = outcome ≡ write_face cells unit offset word

abbrev pub ByteFaceOutcome : List ℕ → ℕ → ℕ → ℕ → ℕ × List ℕ → Type 0
ByteFaceOutcome cells unit offset byte outcome = outcome ≡ byte_face cells unit offset byte

abbrev pub ResetFaceOutcome : List ℕ → ℕ → ℕ × List ℕ → Type 0
ResetFaceOutcome cells unit outcome = outcome ≡ reset_face cells unit

abbrev pub PeriodFaceOutcome : List ℕ → ℕ → ℕ × List ℕ → Type 0
PeriodFaceOutcome cells unit outcome = outcome ≡ period_face cells unit

abbrev pub MoveFaceOutcome : List ℕ → List ℕ → ℕ → ℕ → ℕ × List ℕ × List ℕ → Type 0
MoveFaceOutcome cells memory unit side outcome = outcome ≡ move_face cells memory unit side

abbrev pub LevelFaceOutcome : List ℕ → ℕ → ℕ → ℕ → Type 0
LevelFaceOutcome cells unit side outcome = outcome ≡ level_face cells unit side

abbrev pub SerialFaceOutcome : List ℕ → ℕ → ℕ → ℕ → Type 0
SerialFaceOutcome cells unit side outcome = outcome ≡ serial_face cells unit side

abbrev pub WantsMovesFaceOutcome : List ℕ → ℕ → Type 0
WantsMovesFaceOutcome cells outcome = outcome ≡ wants_moves_face cells

abbrev pub WantsInterruptsFaceOutcome : List ℕ → ℕ → Type 0
WantsInterruptsFaceOutcome cells outcome = outcome ≡ wants_interrupts_face cells

abbrev pub TransferFaceOutcome : List ℕ → List ℕ → ℕ → ℕ → ℕ × List ℕ × List ℕ → Type 0
TransferFaceOutcome cells memory unit side outcome = outcome ≡ transfer_face cells memory unit side
