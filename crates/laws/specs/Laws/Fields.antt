-- A number made of fields of bits, the first at the lowest bits. Three laws, for fields of any widths: each field is read as it was put
-- in (`value`), the fields that are read make the number again (`whole`), and fields that fit make a number that fits (`number_lt`).
-- Assumes nothing.
use Rattle.std.specs.Prelude.{◌≡◌, refl, Bool, true, false, List, [], ◌∷◌, ℕ, zero, suc, ◌+◌, ◌*◌, ◌/◌, ◌%◌, ◌^◌, ◌<◌}
use Rattle.std.proofs.Common.{ap, sym, ◌∙◌, div-one, arith, lit<, pow-add, shr_lt, shr-shr}
use Rattle.std.proofs.Math.Arith.{lt-one, digits_lt}
use Rattle.std.proofs.Math.Pow.{split, high, low}
use Rattle.laws.specs.Bits.{bit, on, bits}

-- a field n bits wide, with the value v
pub data Field : Type 0 where
  field : (n v : ℕ) → Field

abbrev pub flag : Bool → Field
flag b = field 1 (bit b)

abbrev pub Fit : List Field → Type 0
Fit [] = Unit {0}
Fit (field n v ∷ fs) = (v < 2 ^ n) × Fit fs

abbrev pub width : List Field → ℕ
width [] = 0
width (field n v ∷ fs) = width fs + n

abbrev pub number : List Field → ℕ
number [] = 0
number (field n v ∷ fs) = number fs * 2 ^ n + v

-- fields of the same widths, with the bits that w has there, from bit k on
abbrev pub read : ℕ → ℕ → List Field → List Field
read w k [] = []
read w k (field n v ∷ fs) = field n (bits w k n) ∷ read w (k + n) fs

-- the value of field i
abbrev pub at : List Field → ℕ → ℕ
at [] i = 0
at (field n v ∷ fs) zero = v
at (field n v ∷ fs) (suc i) = at fs i

-- ---- the laws: from bit k on, where w is w / 2 ^ k, and then from bit 0 on

module _ (w : ℕ) where
  pub bits_are : (k n : ℕ) → bits w k n ≡ w / 2 ^ k % 2 ^ n
  bits_are zero n = simp div-one
  bits_are (suc k) n = refl

  read_from : (k : ℕ) (fs : List Field) → Fit fs → w / 2 ^ k ≡ number fs → read w k fs ≡ fs
  read_from k [] h e = refl
  read_from k (field n v ∷ fs) h e =
      rw (bits_are k n, e, low (number fs) n h.0, read_from (k + n) fs h.1 (rw (← shr-shr w k n, e) (high (number fs) n h.0)))

  number_from : (k : ℕ) (fs : List Field) → w / 2 ^ k < 2 ^ width fs → number (read w k fs) ≡ w / 2 ^ k
  number_from k [] h = sym (lt-one h)
  number_from k (field n v ∷ fs) h =
      rw (bits_are k n, number_from (k + n) fs (rw (← shr-shr w k n) (shr_lt (width fs) n h)), ← shr-shr w k n) (split (w / 2 ^ k) n)

  -- where w is the number of fields that fit, each field of w has its value
  pub value : (fs : List Field) → Fit fs → w ≡ number fs → (i : ℕ) → at (read w 0 fs) i ≡ at fs i
  value fs h e i = ap (λ l. at l i) (read_from 0 fs h (div-one w ∙ e))

  -- the fields of w make w
  pub whole : (fs : List Field) → w < 2 ^ width fs → number (read w 0 fs) ≡ w
  whole fs h = number_from 0 fs (simp div-one h) ∙ div-one w

pub number_lt : (fs : List Field) → Fit fs → number fs < 2 ^ width fs
number_lt [] h = lit< tt
number_lt (field n v ∷ fs) h = rw pow-add (digits_lt (number_lt fs h.1) h.0)

-- ---- a flag is a field of one bit

pub bit_lt : (b : Bool) → bit b < 2
bit_lt true = lit< tt
bit_lt false = lit< tt

pub on_bit : (b : Bool) → on (bit b) ≡ b
on_bit true = refl
on_bit false = refl

pub bit_on : (x : ℕ) → bit (on (x % 2)) ≡ x % 2
bit_on x = go (x % 2) (omega arith)
  where
    go : (y : ℕ) → y < 2 → bit (on y) ≡ y
    go zero h = refl
    go (suc zero) h = refl
    go (suc (suc y)) h = omega arith
