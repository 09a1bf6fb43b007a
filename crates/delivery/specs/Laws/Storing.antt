-- A receiver's move that goes well, as one equation, and what it tells that a move answers 4.
-- Assumes nothing.
use Rattle.std.specs.Prelude.{Bool, true, false, not, ◌&&◌, List, ◌≡◌, refl, ℕ, ◌-◌, ◌/◌, ◌^◌, ◌<◌, set, Result, Ok, Err}
use Rattle.std.proofs.Common.{ap, sym, ◌∙◌, arith, lt-ltb}
use Rattle.std.proofs.lemmas.Bool.{not-true}
use Rattle.laws.specs.Pick.{pick, either}
use Rattle.receiver.specs.Moves.{Moved, may_move, moved, gone, moved_to, done_with, exceeded}
use Rattle.receiver.specs.Side.{has_error, data_out_ready}
use Rattle.receiver.specs.declared.side.Receiver.{Receiver}
use Rattle.silos.specs.Silo.{is_empty, oldest}
use Rattle.words.specs.Address.{place_of}
use Rattle.words.specs.Answers.{move_number}
use Rattle.words.specs.Load.{Bounded, word_moved}
use Rattle.words.specs.declared.answers.Refusal.{Refusal}
use Rattle.delivery.specs.Laws.Loads.{no_overflow}
use Rattle.delivery.specs.Laws.Loading.{both}

-- where there is a move, there is a word
may_some : (a b c : Bool) → (a && b && c) ≡ true → b ≡ true
may_some a b c all = (both a b (both (a && b) c all).0).1

pub some_word : (r : Receiver) → may_move r ≡ true → is_empty r.end.silo ≡ false
some_word r e = not-true _ (may_some r.modes.memory_requests (data_out_ready r) (not (has_error r)) e)

answered_4 : (may : Bool) (r : Receiver) (memory : List ℕ) (m : Moved × List ℕ) → move_number m.0.answer ≡ 0
    → (pick (not may) (record { side = r; answer = Err Refusal.Nothing }, memory) m).0.answer ≡ Err Refusal.Nothing → may ≡ false
answered_4 true r memory m done e = absurd (omega (arith, sym done ∙ ap move_number e))
answered_4 false r memory m done e = refl

done_to : (r : Receiver) (memory : List ℕ) (p : Result ℕ ℕ) → move_number (moved_to r memory p).0.answer ≡ 0
done_to r memory (Ok at) = refl
done_to r memory (Err address) = refl

pub until_4 : (r : Receiver) (memory : List ℕ) (length : ℕ) → (moved r memory length).0.answer ≡ Err Refusal.Nothing → may_move r ≡ false
until_4 r memory length e =
    let p = place_of r.end.load.address.0 length in
    answered_4 (may_move r) r memory (pick (not r.end.load.loaded) (done_with (exceeded r), memory) (moved_to r memory p))
    (either (λ (m : Moved × List ℕ). move_number m.0.answer ≡ 0) (not r.end.load.loaded) (λ f. refl) (λ f. done_to r memory p)) e

-- a move of a loaded count inside the memory, with INH ADI clear, short of byte 777776
abbrev pub after : Receiver → Receiver
after r = gone r (word_moved r.end.load false)

pub goes : (r : Receiver) (memory : List ℕ) (length : ℕ) → Bounded r.end.load → r.modes.inhibit_increment ≡ false → r.end.load.loaded ≡ true
    → r.end.load.address.0 / 2 < length → r.end.load.address.0 < 2 ^ 18 - 2 → may_move r ≡ true
    → moved r memory length ≡ (done_with (after r), set memory (r.end.load.address.0 / 2) (oldest r.end.silo))
goes r memory length bounded increments loaded inside short may =
    rw (may, loaded, lt-ltb (r.end.load.address.0 / 2) length inside, increments, no_overflow r.end.load bounded short)

pub stays : (r : Receiver) (memory : List ℕ) (length : ℕ) → may_move r ≡ false
    → moved r memory length ≡ (record { side = r; answer = Err Refusal.Nothing }, memory)
stays r memory length e = rw e
