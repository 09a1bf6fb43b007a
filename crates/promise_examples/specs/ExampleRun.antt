-- The two words of `Example` arrive: the prover computes the run.
-- Assumes nothing.
use Rattle.std.proofs.Common.{true≢false, ap, arith, lit≤}
use Rattle.std.specs.Prelude.{List, [], ◌∷◌, ◌≡◌, refl, ℕ, ◌+◌, ◌^◌}
use Rattle.std.specs.Int.Count.{ones}
use Rattle.codec.specs.Rings.{in_order, laid_from}
use Rattle.cells.specs.Ranges.{in_range}
use Rattle.cells.specs.Search.{first_found}
use Rattle.pcl.specs.Calls.{read_call}
use Rattle.pcl.specs.Numbers.{level_value, read_call_word}
use Rattle.pcl.specs.Sides.{level_call}
use Rattle.words.specs.Crc.{crc_bits, crc_word}
use Rattle.promise.specs.Conditions.{OwnSlice}
use Rattle.promise.proofs.Demand3.{demand_3}
use Rattle.promise_examples.specs.Example.{opening, start}
use Rattle.promise.specs.Kinds.{Kind, own, other, owns}
use Rattle.promise.specs.Statement.{Meets, Succeeded, after, parties}
use Rattle.promise.specs.World.{World, Event, write, read, slice, move, number_of}

-- R stores the first word, T loads the second; a damaged slice for address 2, a refused write at T, a read there; T's slice, with the
-- second word, which R stores; two more slices of T's, with others between them

abbrev events : List Event
events =
    move 0 1
    ∷ move 0 0
    ∷ slice 0xFFFF 1
    ∷ write 0 1 0
    ∷ read 0 2
    ∷ slice 0 0
    ∷ move 0 1
    ∷ slice 5 0
    ∷ slice 0 0
    ∷ slice 0 0
    ∷ slice 0 0
    ∷ []

not_own : other ≡ own → ⊥
not_own e = let one : ◌≡◌ {A = ℕ} 0 1 = ap (λ (k : Kind). owns (k ∷ [])) e in omega arith

meets : Meets start events
unfolding first_found in_range ones crc_word crc_bits in_order laid_from
meets =
    let mine : (w : World) → number_of (move 0 0) w ≡ 4 → number_of (move 0 1) w ≡ 4 → OwnSlice (parties start) 0 0 w =
    λ w t r. record { data_undamaged = refl; parity_undamaged = refl; sender_moved = t; receiver_moved = r } in (
      λ e theirs. absurd (theirs refl),
      (
        λ e theirs. absurd (theirs refl),
        (
          λ e own. absurd (not_own own),
          (
            λ e. absurd (true≢false e),
            (
              λ e. tt,
              (
                λ e own. mine _ refl refl,
                (
                  λ e theirs. absurd (theirs refl),
                  (λ e own. absurd (not_own own), (λ e own. mine _ refl refl, (λ e own. absurd (not_own own), (λ e own. mine _ refl refl, tt)))),
                ),
              ),
            ),
          ),
        ),
      ),
    )

-- they are three slices of T's, so the words are delivered
arrives : Succeeded start (after start events)
unfolding first_found in_range ones crc_word crc_bits in_order laid_from
arrives = (demand_3 start opening events meets).from_then (lit≤ tt)

stored : (after start events).memory 0 ≡ 0 ∷ 7 ∷ 9 ∷ 7 ∷ 9 ∷ 0 ∷ []
unfolding first_found in_range ones crc_word crc_bits in_order laid_from
stored = refl

-- TSR has SUC TXF and DTIRDY, RSR has SUC TXF, and both levels stand
abbrev word_read : ℕ → ℕ
word_read offset = read_call_word (read_call (after start events).cells 0 offset).0

abbrev level_read : ℕ → ℕ
level_read side = level_value (level_call (after start events).cells 0 side)

seen : (word_read 2 ≡ 2 ^ 7 + 2 ^ 8) × (word_read 18 ≡ 2 ^ 7) × (level_read 0 ≡ 1) × (level_read 1 ≡ 1)
unfolding first_found in_range ones crc_word crc_bits in_order laid_from
seen = (refl, refl, refl, refl)
