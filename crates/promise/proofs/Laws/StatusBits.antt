-- Bits of the words that a read of TSR or RSR, of TCR or RCR, and of TMMR gives: each is what was put in there.
-- Assumes nothing.
use Rattle.std.specs.Prelude.{Bool, List, [], ◌∷◌, ◌≡◌, refl, ℕ, ◌+◌, ◌^◌, ◌<◌}
use Rattle.std.proofs.Common.{ap, ◌∙◌, arith, lit<}
use Rattle.laws.specs.Bits.{bit_at, on, set_at}
use Rattle.laws.specs.Laws.Fields.{Field, Fit, bit_lt, field, flag, number, on_bit, value}
use Rattle.words.specs.Laws.Registers as registers

-- ---- TSR and RSR

pub record StatusBits (word : ℕ) (b4 b5 b6 b7 b15 : Bool) : Type 0 where
  pub bit4 : bit_at word 4 ≡ b4
  pub bit5 : bit_at word 5 ≡ b5
  pub bit6 : bit_at word 6 ≡ b6
  pub bit7 : bit_at word 7 ≡ b7
  pub bit15 : bit_at word 15 ≡ b15

pub status_bits : (a b : ℕ) → a < 2 ^ 2 → b < 2 ^ 2 → (b4 b5 b6 b7 b8 b9 b10 b11 b12 b13 b14 b15 : Bool)
    → StatusBits (registers.status_bits a b b4 b5 b6 b7 b8 b9 b10 b11 b12 b13 b14 b15) b4 b5 b6 b7 b15
status_bits a b fa fb b4 b5 b6 b7 b8 b9 b10 b11 b12 b13 b14 b15 =
    let back =
    registers.status_back a b b4 b5 b6 b7 b8 b9 b10 b11 b12 b13 b14 b15 fa fb (registers.status_bits a b b4 b5 b6 b7 b8 b9 b10 b11 b12 b13 b14 b15) refl in
    record {
      bit4 = ap on (back 2) ∙ on_bit b4;
      bit5 = ap on (back 3) ∙ on_bit b5;
      bit6 = ap on (back 4) ∙ on_bit b6;
      bit7 = ap on (back 5) ∙ on_bit b7;
      bit15 = ap on (back 13) ∙ on_bit b15;
    }

-- ---- TCR and RCR: IE

pub enabled_bit : (b0 b1 b2 b3 : Bool) (n4 : ℕ) (b6 b7 : Bool) (n8 : ℕ) (b13 b14 b15 : Bool) → n4 < 2 ^ 2 → n8 < 2 ^ 5
    → bit_at (registers.control_bits b0 b1 b2 b3 n4 b6 b7 n8 b13 b14 b15) 6 ≡ b6
enabled_bit b0 b1 b2 b3 n4 b6 b7 n8 b13 b14 b15 two five =
    let back = registers.control_back b0 b1 b2 b3 n4 b6 b7 n8 b13 b14 b15 two five (registers.control_bits b0 b1 b2 b3 n4 b6 b7 n8 b13 b14 b15) refl in
    ap on (back 5) ∙ on_bit b6

-- ---- TMMR: CHN OPN

pub channel_bit : (output : ℕ) → output < 2 ^ 5 → (b8 b9 b10 b11 b12 b14 b15 : Bool)
    → bit_at (output + set_at 8 b8 + set_at 9 b9 + set_at 10 b10 + set_at 11 b11 + set_at 12 b12 + set_at 14 b14 + set_at 15 b15) 11 ≡ b11
channel_bit output fits b8 b9 b10 b11 b12 b14 b15 =
    let word = output + set_at 8 b8 + set_at 9 b9 + set_at 10 b10 + set_at 11 b11 + set_at 12 b12 + set_at 14 b14 + set_at 15 b15 in
    let fields : List Field =
    field 5 output ∷ field 3 0 ∷ flag b8 ∷ flag b9 ∷ flag b10 ∷ flag b11 ∷ flag b12 ∷ field 1 0 ∷ flag b14 ∷ flag b15 ∷ [] in
    let same : word ≡ number fields = omega arith in
    let z : 0 < 2 ^ 1 = lit< tt in
    let y : 0 < 2 ^ 3 = lit< tt in
    let fit : Fit fields = search bit_lt depth 20 in
    ap on (value word fields fit same 5) ∙ on_bit b11
