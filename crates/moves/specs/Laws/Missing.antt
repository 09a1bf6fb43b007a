-- The address that a move on the cells hands up has 18 bits, is even, and is never 0: address 0 lies inside every memory.
-- Assumes nothing.
use Rattle.std.specs.Prelude.{Bool, List, ◌≡◌, ℕ, ◌%◌, ◌^◌, ◌<◌, Result, Ok, Err, Option, Some, None}
use Rattle.std.proofs.Common.{arith}
use Rattle.cells.specs.Fitted.{Fitted, transmitter_of, receiver_of}
use Rattle.cells.specs.Layout.{memory_length}
use Rattle.cells.specs.Laws.FittedLaws.{transmitter_within, receiver_within}
use Rattle.receiver.specs.Moves as RM
use Rattle.receiver.proofs.Laws.Missing as R
use Rattle.transmitter.specs.Moves as TM
use Rattle.transmitter.proofs.Laws.Missing as T
use Rattle.words.specs.Missing.{HandsUp}
use Rattle.words.specs.declared.answers.Refusal.{Refusal}
use Rattle.moves.specs.Moving.{transmitter_moved, receiver_moved}
use Rattle.moves.specs.Laws.Nothing.{transmitter_answers, receiver_answers}

abbrev pub Short : Result (Option ℕ) Refusal → Type 0
Short (Ok None) = Unit {0}
Short (Ok (Some address)) = (0 < address) × (address < 2 ^ 18) × (address % 2 ≡ 0)
Short (Err refusal) = Unit {0}

short : (before after : Bool) (tried memory : ℕ) (m : Result (Option ℕ) Refusal) → HandsUp before after tried memory m → 0 < memory → tried < 2 ^ 18 → tried % 2 ≡ 0 → Short m
short before after tried memory (Ok None) h some few even = tt
short before after tried memory (Ok (Some address)) (clear, set, same, outside) some few even = (omega arith, omega arith, omega arith)
short before after tried memory (Err refusal) h some few even = tt

module _ (cells memory : List ℕ) (unit : ℕ) (fitted : Fitted cells unit) where
  pub transmitter_short : Short (transmitter_moved cells memory unit).0
  transmitter_short =
      let t = transmitter_of cells unit in
      let load = (transmitter_within cells unit fitted).end.load in
      let n = memory_length cells unit in
      let m = TM.moved t memory n in
      rw (transmitter_answers cells memory unit)
      (short t.faults.nonexistent_location m.side.faults.nonexistent_location t.end.load.address.0 n m.answer (T.hands_up t memory n)
      (omega arith) load.eighteen_bits load.even_address)

  pub receiver_short : Short (receiver_moved cells memory unit).0
  receiver_short =
      let r = receiver_of cells unit in
      let load = (receiver_within cells unit fitted).end.load in
      let n = memory_length cells unit in
      let m = (RM.moved r memory n).0 in
      rw (receiver_answers cells memory unit)
      (short r.faults.nonexistent_location m.side.faults.nonexistent_location r.end.load.address.0 n m.answer (R.hands_up r memory n)
      (omega arith) load.eighteen_bits load.even_address)
