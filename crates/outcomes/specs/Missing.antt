-- Document 02, No. 3: "When a move sets NXL .. the address check must also give the 18-bit byte address it tried, and the move must hand it up
-- with its answer 0". Of every move call, whatever it is lent.
-- Assumes nothing.
use Rattle.std.specs.Prelude.{Bool, true, false, List, ◌≡◌, refl, ℕ, ◌*◌, ◌≤◌, ◌<◌, ltb, length, Result, Ok, Err, Option, Some, None}
use Rattle.std.proofs.Common.{ap, ◌∙◌, arith}
use Rattle.cells.specs.Fitted.{transmitter_of, receiver_of}
use Rattle.cells.specs.Layout.{memory_length}
use Rattle.frames.specs.Laws.Moves.{transmitter_move, receiver_move}
use Rattle.frames.specs.Laws.Sides.{replaced_here}
use Rattle.laws.specs.Pick.{either}
use Rattle.moves.specs.Laws.Nothing.{transmitter_answers, receiver_answers}
use Rattle.pcl.specs.Numbers.{move_call_value}
use Rattle.pcl.specs.Sides.{move_call}
use Rattle.pcl.specs.Laws.Cases.{admitted_cases}
use Rattle.receiver.specs.Moves as R
use Rattle.receiver.specs.declared.side.Receiver.{Receiver}
use Rattle.receiver.proofs.Laws.Missing as RM
use Rattle.transmitter.specs.Moves as T
use Rattle.transmitter.specs.declared.side.Transmitter.{Transmitter}
use Rattle.transmitter.proofs.Laws.Missing as TM
use Rattle.words.specs.Answers.{move_value}
use Rattle.words.specs.Missing.{HandsUp}
use Rattle.words.specs.declared.answers.Refusal.{Refusal}

-- of NXL before and after a call, the load's byte address before it, the memory's length in words, and the answer's value: with 0 the call has
-- not set NXL, and with any other it has, and the value is the address tried, outside the memory
pub record Told (before after : Bool) (tried memory value : ℕ) : Type 0 where
  pub none : value ≡ 0 → after ≡ before
  pub some : 0 < value → (before ≡ false) × (after ≡ true) × (value ≡ tried) × (memory * 2 ≤ value)

unset : (nxl : Bool) (tried memory : ℕ) → Told nxl nxl tried memory 0
unset nxl tried memory = record { none = λ e. refl; some = λ (h : 0 < 0). absurd (omega arith) }

-- address 0 lies inside every memory
told : (before after : Bool) (tried memory : ℕ) (m : Result (Option ℕ) Refusal) → 0 < memory → HandsUp before after tried memory m
    → Told before after tried memory (move_value m)
told before after tried memory (Ok None) some h = record { none = λ e. h; some = λ (z : 0 < 0). absurd (omega arith) }
told before after tried memory (Ok (Some address)) some (clear, set, same, outside) =
    record { none = λ (z : address ≡ 0). absurd (omega arith); some = λ (n : 0 < address). (clear, set, same, omega arith) }
told before after tried memory (Err refusal) some h = record { none = λ e. h; some = λ (z : 0 < 0). absurd (omega arith) }

module _ (cells memory : List ℕ) (unit : ℕ) where
  abbrev pub ToldBySender : Result (Option ℕ) Refusal × List ℕ × List ℕ → Type 0
  ToldBySender outcome =
      let t = transmitter_of cells unit in
      Told t.faults.nonexistent_location (transmitter_of outcome.1 unit).faults.nonexistent_location t.end.load.address.0
      (memory_length cells unit) (move_call_value outcome.0)

  abbrev pub ToldByReceiver : Result (Option ℕ) Refusal × List ℕ × List ℕ → Type 0
  ToldByReceiver outcome =
      let r = receiver_of cells unit in
      Told r.faults.nonexistent_location (receiver_of outcome.1 unit).faults.nonexistent_location r.end.load.address.0
      (memory_length cells unit) (move_call_value outcome.0)

  -- a move at side 0
  pub transmitter_tells : ToldBySender (move_call cells memory unit 0)
  transmitter_tells =
      let t = transmitter_of cells unit in
      let n = memory_length cells unit in
      let m = T.moved t memory n in
      let stays = unset t.faults.nonexistent_location t.end.load.address.0 n in
      admitted_cases cells ToldBySender unit _ _ _ stays stays
      (λ ok there.
      either ToldBySender (ltb (length memory) n) (λ e. stays)
      (λ e.
      let after = (transmitter_move cells ok memory unit there).holds.transmitter unit there ∙ replaced_here (transmitter_of cells) unit m.side in
      rw (ap (λ (x : Transmitter). x.faults.nonexistent_location) after, transmitter_answers cells memory unit)
      (told t.faults.nonexistent_location m.side.faults.nonexistent_location t.end.load.address.0 n m.answer (omega arith)
      (TM.hands_up t memory n))))

  -- and at side 1
  pub receiver_tells : ToldByReceiver (move_call cells memory unit 1)
  receiver_tells =
      let r = receiver_of cells unit in
      let n = memory_length cells unit in
      let m = (R.moved r memory n).0 in
      let stays = unset r.faults.nonexistent_location r.end.load.address.0 n in
      admitted_cases cells ToldByReceiver unit _ _ _ stays stays
      (λ ok there.
      either ToldByReceiver (ltb (length memory) n) (λ e. stays)
      (λ e.
      let after = (receiver_move cells ok memory unit there).holds.receiver unit there ∙ replaced_here (receiver_of cells) unit m.side in
      rw (ap (λ (x : Receiver). x.faults.nonexistent_location) after, receiver_answers cells memory unit)
      (told r.faults.nonexistent_location m.side.faults.nonexistent_location r.end.load.address.0 n m.answer (omega arith)
      (RM.hands_up r memory n))))
