-- "the answer": all that a call answers, the number and what comes with it. Document 01, The link, "Calls".
-- Assumes nothing.
use Rattle.std.specs.Prelude.{Result, Option, Bool, ℕ}
use Rattle.pcl.specs.Calls.{read_call, write_call, byte_call, reset_call, period_call}
use Rattle.pcl.specs.Link.{fit_call, slice_call}
use Rattle.pcl.specs.Sides.{move_call, level_call, serial_call}
use Rattle.promise.specs.World.{World, Event, fit, write, write_byte, read, slice, move, period, reset, level, serial, host_write}
use Rattle.words.specs.declared.answers.Refusal.{Refusal}
use Rattle.words.specs.declared.answers.Write.{Write}
use Rattle.bus.specs.declared.slice.Given.{Given}

pub data Answer : Type 0 where
  to_fit : Result (Unit {0}) Refusal → Answer
  -- of a word or a byte
  to_write : Result Write Refusal → Answer
  to_read : Result ℕ Refusal → Answer
  to_slice : Result (Option Given) Refusal → Answer
  to_move : Result (Option ℕ) Refusal → Answer
  -- to a period or a reset
  to_unit : Result (Unit {0}) Refusal → Answer
  to_level : Result Bool Refusal → Answer
  to_serial : Result ℕ Refusal → Answer
  -- a host's own write in a memory is no call
  no_answer : Answer

abbrev pub answer_of : Event → World → Answer
answer_of (fit setup) w = to_fit (fit_call w.cells setup).0
answer_of (write unit offset word) w = to_write (write_call w.cells unit offset word).0
answer_of (write_byte unit offset byte) w = to_write (byte_call w.cells unit offset byte).0
answer_of (read unit offset) w = to_read (read_call w.cells unit offset).0
answer_of (slice mask parity) w = to_slice (slice_call w.cells mask parity).0
answer_of (move unit side) w = to_move (move_call w.cells (w.memory unit) unit side).0
answer_of (period unit) w = to_unit (period_call w.cells unit).0
answer_of (reset unit) w = to_unit (reset_call w.cells unit).0
answer_of (level unit side) w = to_level (level_call w.cells unit side)
answer_of (serial unit side) w = to_serial (serial_call w.cells unit side)
answer_of (host_write unit place word) w = no_answer
