-- Document 01, The script program: what a record's call does, and the line that it prints. A call's answer is the packed number that C
-- gets: document 01's number below, the value 65,536 times over it.
-- Assumes nothing.
use Rattle.std.specs.Prelude.{List, ◌++◌, ℕ, ◌*◌, ◌/◌, ◌%◌, eqb, length, take, drop, replicate}
use Rattle.laws.specs.Pick.{pick}
use Rattle.pcl.specs.Face.{fit_face, read_face, write_face, byte_face, reset_face, period_face, slice_face, move_face, level_face}
use Rattle.script.specs.SetUps.{set_up_of}
use Rattle.script.specs.declared.calls.Call.{Call}
use Rattle.script.specs.declared.lines.Line.{Line}

abbrev pub number_in : ℕ → ℕ
number_in packed = packed % 65536

abbrev pub value_in : ℕ → ℕ
value_in packed = packed / 65536

abbrev pub call_line : ℕ → ℕ → Line
call_line kind packed = Line.Call kind (number_in packed)

abbrev pub read_line : ℕ → Line
read_line packed = Line.Read (number_in packed) (value_in packed)

abbrev pub level_line : ℕ → Line
level_line packed = Line.Level (number_in packed) (value_in packed)

-- the value has the address in 5 bits, and A and B in 2 each
abbrev pub slice_line : ℕ → Line
slice_line packed = Line.Slice (number_in packed) (value_in packed % 32) (value_in packed / 32 % 4) (value_in packed / 128 % 4)

-- "The script line of a move with NXL gains it as a third field" (document 02, No. 3): the value of a move is the address that was missing,
-- and 0 where none was
abbrev pub move_line : ℕ → Line
move_line packed = pick (eqb (value_in packed) 0) (call_line 5 packed) (Line.Missing (value_in packed))

-- ---- the line, the cells and the memories after a call

abbrev pub Outcome : Type 0
Outcome = Line × List ℕ × List ℕ

-- a call that leaves the memories
abbrev pub leaving : List ℕ → (ℕ → Line) → ℕ × List ℕ → Outcome
leaving memories line p = (line p.0, p.1, memories)

-- "memories 64 zero words": a fit that is done gives them
abbrev pub fit_done : List ℕ → ℕ × List ℕ → Outcome
fit_done memories p = (call_line 1 p.0, p.1, pick (eqb p.0 0) (replicate (length memories) 0) memories)

abbrev pub fit_performed : List ℕ → ℕ → List ℕ → List ℕ → Outcome
fit_performed bytes count cells memories = fit_done memories (fit_face cells (set_up_of bytes count))

-- sixteen memories of 64 words stand one after the other. No unit above 15 is ever fitted, and so its memory is not looked at.
abbrev pub memory_place : ℕ → ℕ
memory_place unit = unit % 16 * 64

abbrev pub memory_of : ℕ → List ℕ → List ℕ
memory_of unit memories = take 64 (drop (memory_place unit) memories)

abbrev pub move_done : ℕ → List ℕ → ℕ × List ℕ × List ℕ → Outcome
move_done unit memories p =
    (move_line p.0, p.1, take (memory_place unit) memories ++ (p.2 ++ drop 64 (drop (memory_place unit) memories)))

abbrev pub move_performed : ℕ → ℕ → List ℕ → List ℕ → Outcome
move_performed unit side cells memories = move_done unit memories (move_face cells (memory_of unit memories) unit side)

-- The bytes begin with the call's record, in which a fit has its set-ups behind length, kind and count. "side 0 transmits, 1 receives"
unfoldable pub performed : List ℕ → List ℕ → List ℕ → Call → Outcome
performed bytes cells memories (Call.Fit count) = fit_performed (drop 5 bytes) count cells memories
performed bytes cells memories (Call.WordWrite unit offset word) = leaving memories (call_line 2) (write_face cells unit offset word)
performed bytes cells memories (Call.WordRead unit offset) = leaving memories read_line (read_face cells unit offset)
performed bytes cells memories (Call.Slice mask parity) = leaving memories slice_line (slice_face cells mask parity)
performed bytes cells memories (Call.Move unit side) = move_performed unit side cells memories
performed bytes cells memories (Call.Period unit) = leaving memories (call_line 6) (period_face cells unit)
performed bytes cells memories (Call.Reset unit) = leaving memories (call_line 7) (reset_face cells unit)
performed bytes cells memories (Call.ByteWrite unit offset byte) = leaving memories (call_line 8) (byte_face cells unit offset byte)
performed bytes cells memories (Call.Level unit side) = (level_line (level_face cells unit side), cells, memories)
