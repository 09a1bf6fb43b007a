-- "Each public call's contract determines the answer, the next state and each lent word, on every input; that no second outcome fits is
-- proved": two outcomes that meet a contract are equal.
-- Assumes nothing.
use Rattle.std.specs.Prelude.{List, ◌≡◌, ℕ}
use Rattle.std.proofs.Common.{sym, ◌∙◌}
use Rattle.pcl.specs.Outcomes.{FitOutcome, SliceOutcome, ReadOutcome, WriteOutcome, ByteOutcome, ResetOutcome, PeriodOutcome, MoveOutcome, LevelOutcome, SerialOutcome, WantsMovesOutcome, WantsInterruptsOutcome, TransferOutcome, FitFaceOutcome, SliceFaceOutcome, ReadFaceOutcome, WriteFaceOutcome, ByteFaceOutcome, ResetFaceOutcome, PeriodFaceOutcome, MoveFaceOutcome, LevelFaceOutcome, SerialFaceOutcome, WantsMovesFaceOutcome, WantsInterruptsFaceOutcome, TransferFaceOutcome}

abbrev pub Single : {A : Type 0} → (A → Type 0) → Type 0
Single {A} Contract = (x y : A) → Contract x → Contract y → x ≡ y

single : {A : Type 0} (o : A) → Single (λ x. x ≡ o)
single o x y e f = e ∙ sym f

-- each for Rattle, and for C
module _ (cells : List ℕ) where
  pub one_fit : (setup : List ℕ) → Single (FitOutcome cells setup) × Single (FitFaceOutcome cells setup)
  one_fit setup = (single _, single _)

  pub one_slice : (mask parity : ℕ) → Single (SliceOutcome cells mask parity) × Single (SliceFaceOutcome cells mask parity)
  one_slice mask parity = (single _, single _)

  pub one_read : (unit offset : ℕ) → Single (ReadOutcome cells unit offset) × Single (ReadFaceOutcome cells unit offset)
  one_read unit offset = (single _, single _)

  pub one_write : (unit offset word : ℕ) → Single (WriteOutcome cells unit offset word) × Single (WriteFaceOutcome cells unit offset word)
  one_write unit offset word = (single _, single _)

  pub one_byte : (unit offset byte : ℕ) → Single (ByteOutcome cells unit offset byte) × Single (ByteFaceOutcome cells unit offset byte)
  one_byte unit offset byte = (single _, single _)

  pub one_reset : (unit : ℕ) → Single (ResetOutcome cells unit) × Single (ResetFaceOutcome cells unit)
  one_reset unit = (single _, single _)

  pub one_period : (unit : ℕ) → Single (PeriodOutcome cells unit) × Single (PeriodFaceOutcome cells unit)
  one_period unit = (single _, single _)

  pub one_move : (memory : List ℕ) (unit side : ℕ) → Single (MoveOutcome cells memory unit side) × Single (MoveFaceOutcome cells memory unit side)
  one_move memory unit side = (single _, single _)

  pub one_level : (unit side : ℕ) → Single (LevelOutcome cells unit side) × Single (LevelFaceOutcome cells unit side)
  one_level unit side = (single _, single _)

  pub one_serial : (unit side : ℕ) → Single (SerialOutcome cells unit side) × Single (SerialFaceOutcome cells unit side)
  one_serial unit side = (single _, single _)

  pub one_wants_moves : Single (WantsMovesOutcome cells) × Single (WantsMovesFaceOutcome cells)
  one_wants_moves = (single _, single _)

  pub one_wants_interrupts : Single (WantsInterruptsOutcome cells) × Single (WantsInterruptsFaceOutcome cells)
  one_wants_interrupts = (single _, single _)

  pub one_transfer : (memory : List ℕ) (unit side : ℕ) → Single (TransferOutcome cells memory unit side) × Single (TransferFaceOutcome cells memory unit side)
  one_transfer memory unit side = (single _, single _)
