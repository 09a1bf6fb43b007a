-- Document 01, Numbers: the number of each call's answer, and its value. C gets one number, the value 65,536 times over the number
-- (docs/DECISIONS.md, "What C gets"): in 32 bits, and in 64 where the value has more than 16.
-- Assumes nothing.
use Rattle.std.specs.Prelude.{Bool, ℕ, ◌+◌, ◌*◌, ◌/◌, ◌%◌, ◌^◌, Result, Ok, Err, Option, Some, None, unwrap_or}
use Rattle.bus.specs.declared.slice.Given.{Given}
use Rattle.laws.specs.Bits.{bit}
use Rattle.service.specs.declared.transfers.Transfer.{Transfer}
use Rattle.words.specs.Answers.{number_of, read_number, read_word, write_number, move_number, move_value}
use Rattle.words.specs.declared.answers.Refusal.{Refusal}
use Rattle.words.specs.declared.answers.Write.{Write}

-- 9 "a lent state outside the ranges docs/ lists"; 1 "unit not fitted"
abbrev pub read_call_number : Result ℕ Refusal → ℕ
read_call_number c = read_number c

abbrev pub read_call_word : Result ℕ Refusal → ℕ
read_call_word c = read_word c

abbrev pub read_packed : Result ℕ Refusal → ℕ
read_packed c = read_call_number c + read_call_word c * 65536

abbrev pub write_call_number : Result Write Refusal → ℕ
write_call_number c = write_number c

-- 0 of an answer that has no value
abbrev pub no_value : {A : Type 0} → Result A Refusal → ℕ
no_value c = 0

abbrev pub done_number : Result (Unit {0}) Refusal → ℕ
done_number (Ok done) = 0
done_number (Err refusal) = number_of refusal

-- 9 "lent room too small"; 7 "set-up breaks a rule above"
abbrev pub fit_number : Result (Unit {0}) Refusal → ℕ
fit_number (Ok done) = 0
fit_number (Err refusal) = number_of refusal

-- 1 "unit not fitted, or side neither 0 nor 1"
abbrev pub move_call_number : Result (Option ℕ) Refusal → ℕ
move_call_number c = move_number c

-- "the move must hand it up with its answer 0" (document 02, No. 3): the address that was missing, and 0 where none was
abbrev pub move_call_value : Result (Option ℕ) Refusal → ℕ
move_call_value c = move_value c

abbrev pub move_packed : Result (Option ℕ) Refusal → ℕ
move_packed c = move_call_number c + move_call_value c * 65536

abbrev pub level_number : Result Bool Refusal → ℕ
level_number (Ok b) = 0
level_number (Err refusal) = number_of refusal

abbrev pub level_value : Result Bool Refusal → ℕ
level_value (Ok b) = bit b
level_value (Err refusal) = 0

abbrev pub level_packed : Result Bool Refusal → ℕ
level_packed c = level_number c + level_value c * 65536

abbrev pub serial_number : Result ℕ Refusal → ℕ
serial_number (Ok s) = 0
serial_number (Err refusal) = number_of refusal

abbrev pub serial_value : Result ℕ Refusal → ℕ
serial_value (Ok s) = s
serial_value (Err refusal) = 0

abbrev pub serial_packed : Result ℕ Refusal → ℕ
serial_packed c = serial_number c + serial_value c * 65536

-- 8 "no master at a slice"; 7 "parity mask above 1"
abbrev pub slot_number : Option Given → ℕ
slot_number None = 8
slot_number (Some g) = 0

abbrev pub slice_number : Result (Option Given) Refusal → ℕ
slice_number (Ok s) = slot_number s
slice_number (Err refusal) = number_of refusal

-- a slice's value: the address, A and B, in 5, 2 and 2 bits
abbrev pub given_value : Given → ℕ
given_value g = g.address + g.codes.a * 32 + g.codes.b * 128

abbrev pub slot_value : Option Given → ℕ
slot_value None = 0
slot_value (Some g) = given_value g

abbrev pub slice_value : Result (Option Given) Refusal → ℕ
slice_value (Ok s) = slot_value s
slice_value (Err refusal) = 0

-- and back: the address, A and B that a slice's value has
abbrev pub address_of : ℕ → ℕ
address_of value = value % 32

abbrev pub a_of : ℕ → ℕ
a_of value = value / 32 % 4

abbrev pub b_of : ℕ → ℕ
b_of value = value / 128 % 4

abbrev pub slice_packed : Result (Option Given) Refusal → ℕ
slice_packed c = slice_number c + slice_value c * 65536

-- which sides want service: a mask of 32 bits
abbrev pub wants_number : Result ℕ Refusal → ℕ
wants_number (Ok mask) = 0
wants_number (Err refusal) = number_of refusal

abbrev pub wants_value : Result ℕ Refusal → ℕ
wants_value (Ok mask) = mask
wants_value (Err refusal) = 0

abbrev pub wants_packed : Result ℕ Refusal → ℕ
wants_packed c = wants_number c + wants_value c * 65536

-- a whole transfer: 4 "nothing to .. move", where its first move answers 4
abbrev pub transferred_number : Result Transfer Refusal → ℕ
transferred_number (Ok t) = 0
transferred_number (Err refusal) = number_of refusal

abbrev pub transfer_number : Result Transfer Refusal → ℕ
transfer_number c = transferred_number c

-- its value: the address that was missing, in 18 bits, 0 where none was; and above it the count of words moved
abbrev pub transferred_value : Result Transfer Refusal → ℕ
transferred_value (Ok t) = unwrap_or t.missing 0 + t.words * 2 ^ 18
transferred_value (Err refusal) = 0

abbrev pub transfer_value : Result Transfer Refusal → ℕ
transfer_value c = transferred_value c

abbrev pub missing_in : ℕ → ℕ
missing_in value = value % 2 ^ 18

abbrev pub words_moved_in : ℕ → ℕ
words_moved_in value = value / 2 ^ 18

abbrev pub transfer_packed : Result Transfer Refusal → ℕ
transfer_packed c = transfer_number c + transfer_value c * 65536
