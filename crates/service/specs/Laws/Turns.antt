-- One turn of a transfer: a move that is done goes on, and any other is the last.
-- Assumes nothing.
use Rattle.std.specs.Prelude.{Bool, true, false, ℕ, Result, Ok, Err, Option, Some, None}
use Rattle.words.specs.declared.answers.Refusal.{Refusal}
use Rattle.service.specs.declared.transfers.Transfer.{Transfer}

abbrev pub is_done : Result (Option ℕ) Refusal → Bool
is_done (Ok None) = true
is_done (Ok (Some address)) = false
is_done (Err refusal) = false

abbrev pub ended_by : Result (Option ℕ) Refusal → ℕ → Result Transfer Refusal
ended_by (Ok None) words = Ok (record { words = words; missing = None })
ended_by (Ok (Some address)) words = Ok (record { words = words; missing = Some address })
ended_by (Err refusal) words = Ok (record { words = words; missing = None })
