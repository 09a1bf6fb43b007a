-- Document 01, Numbers: the number of each refusal and of each answer to a register access or a memory move, and the value that comes with
-- it.
-- Assumes nothing.
use Rattle.std.specs.Prelude.{ℕ, Result, Ok, Err, Option, Some, None}
use Rattle.words.specs.declared.answers.Refusal.{Refusal}
use Rattle.words.specs.declared.answers.Write.{Write}

-- 1 unit not fitted, or side neither 0 nor 1; 2 no such register, or an odd offset; 3 byte write to TSDB or RDDB; 4 nothing to read or move;
-- 7 set-up breaks a rule, parity mask above 1; 9 lent room too small, a lent state outside the ranges
abbrev pub number_of : Refusal → ℕ
number_of Refusal.NoUnit = 1
number_of Refusal.NoRegister = 2
number_of Refusal.ByteRefused = 3
number_of Refusal.Nothing = 4
number_of Refusal.BadSetUp = 7
number_of Refusal.BadMask = 7
number_of Refusal.NoRoom = 9
number_of Refusal.BadState = 9

-- 0 done; 2 no such register, or an odd offset; 4 nothing to read
abbrev pub read_number : Result ℕ Refusal → ℕ
read_number (Ok w) = 0
read_number (Err refusal) = number_of refusal

-- "a read gives 0" where there is nothing to read
abbrev pub read_word : Result ℕ Refusal → ℕ
read_word (Ok w) = w
read_word (Err refusal) = 0

-- 3 byte write to TSDB or RDDB; 5 address silo may not start; 6 word or address dropped
abbrev pub write_number : Result Write Refusal → ℕ
write_number (Ok Write.Done) = 0
write_number (Ok Write.NotStarted) = 5
write_number (Ok Write.Dropped) = 6
write_number (Err refusal) = number_of refusal

-- 4 nothing to move
abbrev pub move_number : Result (Option ℕ) Refusal → ℕ
move_number (Ok missing) = 0
move_number (Err refusal) = number_of refusal

-- "the move must hand it up with its answer 0" (document 02, No. 3): the 18-bit byte address tried, and 0 where no address was missing
abbrev pub move_value : Result (Option ℕ) Refusal → ℕ
move_value (Ok None) = 0
move_value (Ok (Some address)) = address
move_value (Err refusal) = 0
