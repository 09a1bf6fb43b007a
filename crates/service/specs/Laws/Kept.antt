-- A single move leaves its unit's fitted length, and the length of what is lent.
-- Assumes nothing.
use Rattle.std.specs.Prelude.{not, List, ◌≡◌, refl, ℕ, ◌≤◌, Result, Option}
use Rattle.std.proofs.Common.{arith}
use Rattle.cells.specs.Fitted.{Fitted, transmitter_of, receiver_of, transmitter_cells, receiver_cells, put_transmitter, put_receiver}
use Rattle.cells.specs.Layout.{memory_length}
use Rattle.cells.specs.Laws.FittedLaws.{transmitter_within, receiver_within}
use Rattle.cells.specs.Laws.FrameLaws.{own_kept, memory_length_kept}
use Rattle.cells.specs.Laws.PutLaws.{transmitter_part, receiver_part}
use Rattle.codec.specs.Receivers.{enc_receiver}
use Rattle.codec.specs.Transmitters.{enc_transmitter}
use Rattle.laws.specs.Pick.{either}
use Rattle.moves.specs.Moving.{transmitter_moved, receiver_moved}
use Rattle.receiver.specs.Moves as R
use Rattle.receiver.specs.Laws.Keeps as RK
use Rattle.transmitter.specs.Moves as T
use Rattle.transmitter.specs.Laws.Keeps as TK
use Rattle.words.specs.declared.answers.Refusal.{Refusal}

-- what is lent is enough where neither length changed
pub still_lent : {fitted fitted' long long' : ℕ} → fitted' ≡ fitted → long' ≡ long → fitted ≤ long → fitted' ≤ long'
still_lent e f h = rw (e, f) h

module _ (cells memory : List ℕ) (unit : ℕ) (fitted : Fitted cells unit) where
  pub out_keeps_length : memory_length (transmitter_moved cells memory unit).1 unit ≡ memory_length cells unit
  out_keeps_length =
      let t = transmitter_of cells unit in
      let after = (T.moved t memory (memory_length cells unit)).side in
      let within = TK.within_moved t (transmitter_within cells unit fitted) memory (memory_length cells unit) in
      either (λ (p : Result (Option ℕ) Refusal × List ℕ). memory_length p.1 unit ≡ memory_length cells unit) (not (T.may_move t)) (λ e. refl)
      (λ e. memory_length_kept cells (put_transmitter cells unit after) (own_kept cells unit fitted 4 (enc_transmitter (transmitter_cells cells unit) after) (transmitter_part cells unit fitted after within) (omega arith)) unit)

  pub in_keeps_length : memory_length (receiver_moved cells memory unit).1 unit ≡ memory_length cells unit
  in_keeps_length =
      let r = receiver_of cells unit in
      let after = (R.moved r memory (memory_length cells unit)).0.side in
      let within = RK.within_moved r (receiver_within cells unit fitted) memory (memory_length cells unit) in
      either (λ (p : Result (Option ℕ) Refusal × List ℕ × List ℕ). memory_length p.1 unit ≡ memory_length cells unit) (not (R.may_move r)) (λ e. refl)
      (λ e. memory_length_kept cells (put_receiver cells unit after) (own_kept cells unit fitted 77 (enc_receiver (receiver_cells cells unit) after) (receiver_part cells unit fitted after within) (omega arith)) unit)
