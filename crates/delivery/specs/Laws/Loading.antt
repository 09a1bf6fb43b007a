-- A transmitter's move that goes well, as one equation, and what it tells that a move answers 4.
-- Assumes nothing.
use Rattle.std.specs.Prelude.{Bool, true, false, not, ◌&&◌, List, ◌≡◌, refl, ℕ, ◌-◌, ◌/◌, ◌^◌, ◌<◌, get_or, Result, Ok, Err}
use Rattle.std.proofs.Common.{ap, sym, ◌∙◌, arith, lt-ltb}
use Rattle.laws.specs.Pick.{pick}
use Rattle.silos.specs.Silo.{has_room}
use Rattle.transmitter.specs.Moves.{Moved, may_move, moved, gone, moved_from}
use Rattle.transmitter.specs.Side.{has_error}
use Rattle.transmitter.specs.declared.side.Transmitter.{Transmitter}
use Rattle.words.specs.Address.{place_of}
use Rattle.words.specs.Answers.{move_number}
use Rattle.words.specs.Load.{Bounded, word_moved}
use Rattle.words.specs.declared.answers.Refusal.{Refusal}
use Rattle.delivery.specs.Laws.Loads.{no_overflow}

pub both : (a b : Bool) → (a && b) ≡ true → (a ≡ true) × (b ≡ true)
both true b e = (refl, e)
both false b e = (e, absurd (let z : ◌≡◌ {A = ℕ} 0 1 = cc in omega arith))

-- where there is a move, the register is loaded, the silo has room, and TX NPR is set
may_loaded : (a b c d e f : Bool) → (a && b && c && d && e && f) ≡ true → (b ≡ true) × (d ≡ true) × (a ≡ true)
may_loaded a b c d e f all =
    let most = (both (a && b && c && d) e (both (a && b && c && d && e) f all).0).0 in
    let first = both (a && b && c) d most in
    let start = both a b (both (a && b) c first.0).0 in
    (start.1, first.1, start.0)

pub loaded_and_room : (t : Transmitter) → may_move t ≡ true
    → (t.end.load.loaded ≡ true) × (has_room 64 t.end.silo ≡ true) × (t.modes.memory_requests ≡ true)
loaded_and_room t =
    may_loaded t.modes.memory_requests t.end.load.loaded (not (has_error t)) (has_room 64 t.end.silo) (not t.modes.read_silo)
    (not t.channel.ending)

answered_4 : (may : Bool) (t : Transmitter) (m : Moved) → move_number m.answer ≡ 0
    → (pick (not may) (record { side = t; answer = Err Refusal.Nothing }) m).answer ≡ Err Refusal.Nothing → may ≡ false
answered_4 true t m done e = absurd (omega (arith, sym done ∙ ap move_number e))
answered_4 false t m done e = refl

done_from : (t : Transmitter) (memory : List ℕ) (p : Result ℕ ℕ) → move_number (moved_from t memory p).answer ≡ 0
done_from t memory (Ok at) = refl
done_from t memory (Err address) = refl

pub until_4 : (t : Transmitter) (memory : List ℕ) (length : ℕ) → (moved t memory length).answer ≡ Err Refusal.Nothing → may_move t ≡ false
until_4 t memory length e =
    let p = place_of t.end.load.address.0 length in answered_4 (may_move t) t (moved_from t memory p) (done_from t memory p) e

-- a move inside the memory, with INH ADI clear, short of byte 777776
abbrev pub after : Transmitter → List ℕ → Transmitter
after t memory = gone t (get_or memory (t.end.load.address.0 / 2) 0) (word_moved t.end.load false)

pub goes : (t : Transmitter) (memory : List ℕ) (length : ℕ) → Bounded t.end.load → t.modes.inhibit_increment ≡ false
    → t.end.load.address.0 / 2 < length → t.end.load.address.0 < 2 ^ 18 - 2 → may_move t ≡ true
    → (moved t memory length).side ≡ after t memory
goes t memory length bounded increments inside short may =
    rw (may, lt-ltb (t.end.load.address.0 / 2) length inside, increments, no_overflow t.end.load bounded short)

pub stays : (t : Transmitter) (memory : List ℕ) (length : ℕ) → may_move t ≡ false → (moved t memory length).side ≡ t
stays t memory length e = rw e
