-- The two cells of bits, with what one plain case changes.
-- Assumes nothing.
use Rattle.std.specs.Prelude.{◌≡◌, List, [], ◌∷◌, ℕ, ◌+◌, ◌-◌, ◌*◌, ◌/◌, ◌%◌, ◌^◌, ◌<◌}
use Rattle.std.proofs.Common.{arith}
use Rattle.laws.specs.Bits.{bits, bit_at, set_at}
use Rattle.laws.specs.Laws.Fields.{field, number, whole, bit_on}

-- a number of fields with another value at one of them, or at some
control_parts : (c b0 b1 b2 b3 e b6 b7 d b13 b14 b15 mark : ℕ)
    → number (field 1 b0 ∷ field 1 b1 ∷ field 1 b2 ∷ field 1 b3 ∷ field 2 e ∷ field 1 b6 ∷ field 1 b7 ∷ field 5 d ∷ field 1 b13 ∷ field 1 b14 ∷ field 1 b15 ∷ []) ≡ c
    → b0 * 2 ^ 0 + b1 * 2 ^ 1 + b2 * 2 ^ 2 + mark * 2 ^ 3 + e * 2 ^ 4 + b6 * 2 ^ 6 + b7 * 2 ^ 7 + d * 2 ^ 8 + b13 * 2 ^ 13 + b14 * 2 ^ 14 + b15 * 2 ^ 15
    ≡ c - b3 * 2 ^ 3 + mark * 2 ^ 3
control_parts c b0 b1 b2 b3 e b6 b7 d b13 b14 b15 mark h = omega arith

-- a control cell with another period's mark. TCR and RCR have their fields at the same places.
pub control_with : (c : ℕ) → c < 2 ^ 16 → (mark : ℕ)
    → set_at 0 (bit_at c 0) + set_at 1 (bit_at c 1) + set_at 2 (bit_at c 2) + mark * 2 ^ 3 + bits c 4 2 * 2 ^ 4 + set_at 6 (bit_at c 6)
    + set_at 7 (bit_at c 7) + bits c 8 5 * 2 ^ 8 + set_at 13 (bit_at c 13) + set_at 14 (bit_at c 14) + set_at 15 (bit_at c 15)
    ≡ c - c / 2 ^ 3 % 2 * 2 ^ 3 + mark * 2 ^ 3
control_with c h mark =
    rw (bit_on c, bit_on (c / 2 ^ 1), bit_on (c / 2 ^ 2), bit_on (c / 2 ^ 6), bit_on (c / 2 ^ 7), bit_on (c / 2 ^ 13), bit_on (c / 2 ^ 14), bit_on (c / 2 ^ 15))
    (control_parts c (bits c 0 1) (bits c 1 1) (bits c 2 1) (bits c 3 1) (bits c 4 2) (bits c 6 1) (bits c 7 1) (bits c 8 5) (bits c 13 1) (bits c 14 1) (bits c 15 1) mark
    (whole c (field 1 0 ∷ field 1 0 ∷ field 1 0 ∷ field 1 0 ∷ field 2 0 ∷ field 1 0 ∷ field 1 0 ∷ field 5 0 ∷ field 1 0 ∷ field 1 0 ∷ field 1 0 ∷ []) h))

status_parts : (s a b b4 b5 b6 b7 b8 b9 b10 b11 b12 b13 b14 b15 codes at6 at8 at15 : ℕ)
    → number (field 4 codes ∷ field 1 b4 ∷ field 1 b5 ∷ field 1 b6 ∷ field 1 b7 ∷ field 1 b8 ∷ field 1 b9 ∷ field 1 b10 ∷ field 1 b11 ∷ field 1 b12 ∷ field 1 b13 ∷ field 1 b14 ∷ field 1 b15 ∷ []) ≡ s
    → a * 2 ^ 0 + b * 2 ^ 2 + b4 * 2 ^ 4 + b5 * 2 ^ 5 + at6 * 2 ^ 6 + b7 * 2 ^ 7 + at8 * 2 ^ 8 + b9 * 2 ^ 9 + b10 * 2 ^ 10 + b11 * 2 ^ 11 + b12 * 2 ^ 12
    + b13 * 2 ^ 13 + b14 * 2 ^ 14 + at15 * 2 ^ 15
    ≡ s + a + b * 2 ^ 2 + at6 * 2 ^ 6 + at8 * 2 ^ 8 + at15 * 2 ^ 15 - (codes + b6 * 2 ^ 6 + b8 * 2 ^ 8 + b15 * 2 ^ 15)
status_parts s a b b4 b5 b6 b7 b8 b9 b10 b11 b12 b13 b14 b15 codes at6 at8 at15 h = omega arith

-- a status cell with other codes, and with other marks at its computed bits: of a transmitter BUSY, DTIRDY and ERR, of a receiver BUSY,
-- DTORDY and ERR
pub status_with : (s : ℕ) → s < 2 ^ 16 → (a b at6 at8 at15 : ℕ)
    → a * 2 ^ 0 + b * 2 ^ 2 + set_at 4 (bit_at s 4) + set_at 5 (bit_at s 5) + at6 * 2 ^ 6 + set_at 7 (bit_at s 7) + at8 * 2 ^ 8
    + set_at 9 (bit_at s 9) + set_at 10 (bit_at s 10) + set_at 11 (bit_at s 11) + set_at 12 (bit_at s 12) + set_at 13 (bit_at s 13)
    + set_at 14 (bit_at s 14) + at15 * 2 ^ 15
    ≡ s + a + b * 2 ^ 2 + at6 * 2 ^ 6 + at8 * 2 ^ 8 + at15 * 2 ^ 15 - (s % 2 ^ 4 + s / 2 ^ 6 % 2 * 2 ^ 6 + s / 2 ^ 8 % 2 * 2 ^ 8 + s / 2 ^ 15 % 2 * 2 ^ 15)
status_with s h a b at6 at8 at15 =
    rw (bit_on (s / 2 ^ 4), bit_on (s / 2 ^ 5), bit_on (s / 2 ^ 7), bit_on (s / 2 ^ 9), bit_on (s / 2 ^ 10), bit_on (s / 2 ^ 11), bit_on (s / 2 ^ 12), bit_on (s / 2 ^ 13), bit_on (s / 2 ^ 14))
    (status_parts s a b (bits s 4 1) (bits s 5 1) (bits s 6 1) (bits s 7 1) (bits s 8 1) (bits s 9 1) (bits s 10 1) (bits s 11 1) (bits s 12 1) (bits s 13 1) (bits s 14 1) (bits s 15 1) (bits s 0 4) at6 at8 at15
    (whole s (field 4 0 ∷ field 1 0 ∷ field 1 0 ∷ field 1 0 ∷ field 1 0 ∷ field 1 0 ∷ field 1 0 ∷ field 1 0 ∷ field 1 0 ∷ field 1 0 ∷ field 1 0 ∷ field 1 0 ∷ field 1 0 ∷ []) h))

-- a window of its cells is the same where each is
pub same : {a a' b b' c c' d d' e e' f f' g g' h h' i i' : ℕ} {s s' : List ℕ} → a ≡ a' → b ≡ b' → c ≡ c' → d ≡ d' → e ≡ e' → f ≡ f' → g ≡ g' → h ≡ h' → i ≡ i' → s ≡ s'
    → ◌≡◌ {A = List ℕ} (a ∷ b ∷ c ∷ d ∷ e ∷ f ∷ g ∷ h ∷ i ∷ s) (a' ∷ b' ∷ c' ∷ d' ∷ e' ∷ f' ∷ g' ∷ h' ∷ i' ∷ s')
same a b c d e f g h i s = rw (a, b, c, d, e, f, g, h, i, s)
