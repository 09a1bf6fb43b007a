-- The calls as C has them: the packed number, every cell, and for a move and a transfer every word of the memory.
-- Assumes nothing.
use Rattle.std.specs.Prelude.{List, ℕ, Result, Option}
use Rattle.pcl.specs.Calls.{read_call, write_call, byte_call, reset_call, period_call}
use Rattle.pcl.specs.Link.{fit_call, slice_call}
use Rattle.pcl.specs.Numbers.{read_packed, write_call_number, done_number, fit_number, slice_packed, move_packed, level_packed, serial_packed, wants_packed, transfer_packed}
use Rattle.pcl.specs.Service.{wants_moves_call, wants_interrupts_call, transfer_call}
use Rattle.pcl.specs.Sides.{move_call, level_call, serial_call}
use Rattle.words.specs.declared.answers.Refusal.{Refusal}
use Rattle.service.specs.declared.transfers.Transfer.{Transfer}

abbrev pub packed : {A : Type 0} → (A → ℕ) → A × List ℕ → ℕ × List ℕ
packed number p = (number p.0, p.1)

abbrev pub read_face : List ℕ → ℕ → ℕ → ℕ × List ℕ
read_face cells unit offset = packed read_packed (read_call cells unit offset)

abbrev pub write_face : List ℕ → ℕ → ℕ → ℕ → ℕ × List ℕ
write_face cells unit offset word = packed write_call_number (write_call cells unit offset word)

abbrev pub byte_face : List ℕ → ℕ → ℕ → ℕ → ℕ × List ℕ
byte_face cells unit offset byte = packed write_call_number (byte_call cells unit offset byte)

abbrev pub reset_face : List ℕ → ℕ → ℕ × List ℕ
reset_face cells unit = packed done_number (reset_call cells unit)

abbrev pub period_face : List ℕ → ℕ → ℕ × List ℕ
period_face cells unit = packed done_number (period_call cells unit)

abbrev pub fit_face : List ℕ → List ℕ → ℕ × List ℕ
fit_face cells setup = packed fit_number (fit_call cells setup)

abbrev pub slice_face : List ℕ → ℕ → ℕ → ℕ × List ℕ
slice_face cells mask parity = packed slice_packed (slice_call cells mask parity)

abbrev pub packed_move : Result (Option ℕ) Refusal × List ℕ × List ℕ → ℕ × List ℕ × List ℕ
packed_move p = (move_packed p.0, p.1, p.2)

abbrev pub move_face : List ℕ → List ℕ → ℕ → ℕ → ℕ × List ℕ × List ℕ
move_face cells memory unit side = packed_move (move_call cells memory unit side)

-- a level changes nothing, nor does a serial, and each is lent the cells to read alone
abbrev pub level_face : List ℕ → ℕ → ℕ → ℕ
level_face cells unit side = level_packed (level_call cells unit side)

abbrev pub serial_face : List ℕ → ℕ → ℕ → ℕ
serial_face cells unit side = serial_packed (serial_call cells unit side)

-- nor does asking which sides want service
abbrev pub wants_moves_face : List ℕ → ℕ
wants_moves_face cells = wants_packed (wants_moves_call cells)

abbrev pub wants_interrupts_face : List ℕ → ℕ
wants_interrupts_face cells = wants_packed (wants_interrupts_call cells)

abbrev pub packed_transfer : Result Transfer Refusal × List ℕ × List ℕ → ℕ × List ℕ × List ℕ
packed_transfer p = (transfer_packed p.0, p.1, p.2)

abbrev pub transfer_face : List ℕ → List ℕ → ℕ → ℕ → ℕ × List ℕ × List ℕ
transfer_face cells memory unit side = packed_transfer (transfer_call cells memory unit side)
