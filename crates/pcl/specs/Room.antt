-- "The room asked depends on count and memory lengths alone; the state for 16 units asks at most 65,536 bytes."
-- A fit asks `room_for` of its set-up's count; a move asks its unit's memory length besides (`fitted_move`).
-- Assumes nothing.
use Rattle.std.specs.Prelude.{not, List, ◌≡◌, ℕ, ◌*◌, ◌≤◌, ltb, length, Result}
use Rattle.std.proofs.Common.{arith, ltb-true, ltb-false}
use Rattle.fitting.specs.SetUp.{count_of, set_up_good}
use Rattle.laws.specs.Pick.{either}
use Rattle.pcl.specs.Link.{room_for, fit_call}
use Rattle.pcl.specs.Numbers.{fit_number}
use Rattle.words.specs.declared.answers.Refusal.{Refusal}

-- a cell has 16 bits
abbrev pub bytes_asked : ℕ → ℕ
bytes_asked count = room_for count * 2

pub sixteen_ask : bytes_asked 16 ≤ 65536
sixteen_ask = omega arith

-- no set-up asks more than one of 16 units (reading 32)
pub most_asked : (count : ℕ) → bytes_asked count ≤ bytes_asked 16
most_asked count = either (λ (room : ℕ). room * 2 ≤ bytes_asked 16) (ltb 16 count) (λ more. omega arith) (λ few. omega (arith, ltb-false 16 count few))

-- so that a fit with 65,536 bytes has room enough, whatever the set-up
pub room_enough : (cells setup : List ℕ) → 65536 ≤ length cells * 2 → fit_number (fit_call cells setup).0 ≡ 9 → ⊥
room_enough cells setup lent =
    either (λ (p : Result (Unit {0}) Refusal × List ℕ). fit_number p.0 ≡ 9 → ⊥) (ltb (length cells) (room_for (count_of setup)))
    (λ short e. omega (arith, ltb-true (length cells) (room_for (count_of setup)) short, most_asked (count_of setup), sixteen_ask))
    (λ long. either (λ (p : Result (Unit {0}) Refusal × List ℕ). fit_number p.0 ≡ 9 → ⊥) (not (set_up_good setup)) (λ bad e. omega arith) (λ good e. omega arith))
