-- A move answers what its rule answers; and where that is 4, every cell and the memory are as they were.
-- Assumes nothing.
use Rattle.std.specs.Prelude.{Bool, true, false, not, List, ◌≡◌, refl, ℕ, Result, Ok, Err, Option, Some, None}
use Rattle.std.proofs.Common.{true≢false, ap, sym, ◌∙◌}
use Rattle.cells.specs.Fitted.{transmitter_of, receiver_of}
use Rattle.cells.specs.Layout.{memory_length}
use Rattle.laws.specs.Pick.{by, either}
use Rattle.receiver.specs.Moves as R
use Rattle.receiver.specs.declared.side.Receiver.{Receiver}
use Rattle.transmitter.specs.Moves as T
use Rattle.transmitter.specs.declared.side.Transmitter.{Transmitter}
use Rattle.words.specs.Address.{place_of}
use Rattle.words.specs.declared.answers.Refusal.{Refusal}
use Rattle.moves.specs.Moving.{transmitter_moved, receiver_moved}

-- answered 0, also where the move only set an error bit
abbrev pub has_moved : Result (Option ℕ) Refusal → Bool
has_moved (Ok None) = true
has_moved (Ok (Some address)) = true
has_moved (Err refusal) = false

-- ---- the rules: 4 only where the side may not move

loaded : (t : Transmitter) (memory : List ℕ) (p : Result ℕ ℕ) → has_moved (T.moved_from t memory p).answer ≡ true
loaded t memory (Ok at) = refl
loaded t memory (Err address) = refl

pub transmitter_may_not : (t : Transmitter) (memory : List ℕ) (fitted : ℕ) → has_moved (T.moved t memory fitted).answer ≡ false → not (T.may_move t) ≡ true
transmitter_may_not t memory fitted =
    either (λ (m : T.Moved). has_moved m.answer ≡ false → not (T.may_move t) ≡ true) (not (T.may_move t)) (λ e h. e)
    (λ e h. absurd (true≢false (sym (loaded t memory (place_of t.end.load.address.0 fitted)) ∙ h)))

stored : (r : Receiver) (memory : List ℕ) (p : Result ℕ ℕ) → has_moved (R.moved_to r memory p).0.answer ≡ true
stored r memory (Ok at) = refl
stored r memory (Err address) = refl

pub receiver_may_not : (r : Receiver) (memory : List ℕ) (fitted : ℕ) → has_moved (R.moved r memory fitted).0.answer ≡ false → not (R.may_move r) ≡ true
receiver_may_not r memory fitted =
    let P : R.Moved × List ℕ → Type 0 = λ p. has_moved p.0.answer ≡ false → not (R.may_move r) ≡ true in
    either P (not (R.may_move r)) (λ e h. e)
    (λ e. either P (not r.end.load.loaded) (λ e h. absurd (true≢false h))
    (λ e h. absurd (true≢false (sym (stored r memory (place_of r.end.load.address.0 fitted)) ∙ h))))

-- so that where it may, the answer is no refusal
pub transmitter_tells : (t : Transmitter) (memory : List ℕ) (fitted : ℕ) → T.may_move t ≡ true → has_moved (T.moved t memory fitted).answer ≡ true
transmitter_tells t memory fitted may =
    by (has_moved (T.moved t memory fitted).answer) (λ e. e)
    (λ e. absurd (true≢false (sym (transmitter_may_not t memory fitted e) ∙ ap not may)))

pub receiver_tells : (r : Receiver) (memory : List ℕ) (fitted : ℕ) → R.may_move r ≡ true → has_moved (R.moved r memory fitted).0.answer ≡ true
receiver_tells r memory fitted may =
    by (has_moved (R.moved r memory fitted).0.answer) (λ e. e)
    (λ e. absurd (true≢false (sym (receiver_may_not r memory fitted e) ∙ ap not may)))

-- ---- on the cells

module _ (cells memory : List ℕ) (unit : ℕ) where
  abbrev sent : T.Moved
  sent = T.moved (transmitter_of cells unit) memory (memory_length cells unit)

  abbrev received : R.Moved × List ℕ
  received = R.moved (receiver_of cells unit) memory (memory_length cells unit)

  pub transmitter_answers : (transmitter_moved cells memory unit).0 ≡ sent.answer
  transmitter_answers = by (not (T.may_move (transmitter_of cells unit))) (λ e. rw e) (λ e. rw e)

  pub receiver_answers : (receiver_moved cells memory unit).0 ≡ received.0.answer
  receiver_answers = by (not (R.may_move (receiver_of cells unit))) (λ e. rw e) (λ e. rw e)

  pub receiver_memory : (receiver_moved cells memory unit).2 ≡ received.1
  receiver_memory = by (not (R.may_move (receiver_of cells unit))) (λ e. rw e) (λ e. rw e)

  pub transmitter_stays : has_moved sent.answer ≡ false → transmitter_moved cells memory unit ≡ (Err Refusal.Nothing, cells)
  transmitter_stays h = rw (transmitter_may_not (transmitter_of cells unit) memory (memory_length cells unit) h)

  pub receiver_stays : has_moved received.0.answer ≡ false → receiver_moved cells memory unit ≡ (Err Refusal.Nothing, cells, memory)
  receiver_stays h = rw (receiver_may_not (receiver_of cells unit) memory (memory_length cells unit) h)
