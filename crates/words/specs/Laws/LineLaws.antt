-- Laws of the lines: the parity bit is good, no mask does no damage, and none changes the code A, the mark of an opening word or
-- the serial.
-- Assumes nothing.
use Rattle.std.specs.Prelude.{◌≡◌, ℕ, ◌%◌, ◌≤◌, Bool, true, false, count_ones, refl}
use Rattle.std.proofs.Common.{arith, eq-eqb, eqb-true, lit≤}
use Rattle.std.proofs.lemmas.Bool.{eqb-false}
use Rattle.std.specs.Int.Bits.{xor_zero_r}
use Rattle.laws.specs.Pick.{either}
use Rattle.words.specs.Lines.{damaged}
use Rattle.words.specs.Parity.{line, ones_of, good_parity, parity_of}
use Rattle.words.specs.declared.lines.Sent.{Sent}

pub line_le : (p : Bool) → line p ≤ 1
line_le true = lit≤ tt
line_le false = lit≤ tt

-- the parity bit makes the count odd
pub parity_good : (w : ℕ) → good_parity w (parity_of w) ≡ true
parity_good w = go (parity_of w) refl
  where
    go : (t : Bool) → parity_of w ≡ t → good_parity w t ≡ true
    go true e = eq-eqb (ones_of w true % 2) 1 (omega (arith, eqb-true (count_ones w % 2) 0 e))
    go false e = eq-eqb (ones_of w false % 2) 1 (omega (arith, eqb-false (count_ones w % 2) 0 e))

-- no mask, no damage
pub undamaged : (s : Sent) → damaged s 0 false ≡ s
undamaged s = rw (xor_zero_r s.word)

-- whatever is damaged, A stays, an opening word is marked, and nothing else is, and the serial stays
module _ (s : Sent) (mask : ℕ) (parity : Bool) where
  pub code_stays : (damaged s mask parity).code ≡ s.code
  code_stays = either (λ (x : Sent). x.code ≡ s.code) parity (λ e. refl) (λ e. refl)

  pub mark_stays : (damaged s mask parity).opening ≡ s.opening
  mark_stays = either (λ (x : Sent). x.opening ≡ s.opening) parity (λ e. refl) (λ e. refl)

  pub serial_stays : (damaged s mask parity).serial ≡ s.serial
  serial_stays = either (λ (x : Sent). x.serial ≡ s.serial) parity (λ e. refl) (λ e. refl)
