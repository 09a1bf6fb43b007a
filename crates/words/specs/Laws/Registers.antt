-- TCR and RCR have flags and numbers at the same places, and so have TSR and RSR: what is proved of such a word, once for both sides.
-- Assumes nothing.
use Rattle.std.specs.Prelude.{◌≡◌, ℕ, ◌+◌, ◌*◌, ◌%◌, ◌^◌, ◌<◌, Bool, List, [], ◌∷◌, ◌==◌}
use Rattle.std.proofs.Common.{◌∙◌, arith}
use Rattle.laws.specs.Bits.{set_at}
use Rattle.laws.specs.Pick.{either}
use Rattle.laws.specs.Laws.Fields.{Field, field, flag, Fit, number, read, at, value, number_lt, bit_lt}
use Rattle.words.specs.Halves.{with_half}

-- ---- any register: with a half changed it is a word

pub half_lt : (word offset byte : ℕ) → word < 2 ^ 16 → byte < 2 ^ 8 → with_half word offset byte < 2 ^ 16
half_lt word offset byte hw hb = either (λ (x : ℕ). x < 2 ^ 16) (offset % 2 == 1) (λ e. omega arith) (λ e. omega arith)

-- ---- TCR and RCR: a flag b at its bit, a number n from its bit on, of 2 bits at 4 and of 5 at 8

module _ (b0 b1 b2 b3 : Bool) (n4 : ℕ) (b6 b7 : Bool) (n8 : ℕ) (b13 b14 b15 : Bool) where
  abbrev pub control_bits : ℕ
  control_bits =
      set_at 0 b0
      + set_at 1 b1
      + set_at 2 b2
      + set_at 3 b3
      + n4 * 2 ^ 4
      + set_at 6 b6
      + set_at 7 b7
      + n8 * 2 ^ 8
      + set_at 13 b13
      + set_at 14 b14
      + set_at 15 b15

  -- its fields, from the lowest bits up
  abbrev pub control_fields : List Field
  control_fields =
      flag b0 ∷ flag b1 ∷ flag b2 ∷ flag b3 ∷ field 2 n4 ∷ flag b6 ∷ flag b7 ∷ field 5 n8 ∷ flag b13 ∷ flag b14 ∷ flag b15 ∷ []

  pub control_is : control_bits ≡ number control_fields
  control_is = omega arith

  module _ (two : n4 < 2 ^ 2) (five : n8 < 2 ^ 5) where
    control_fit : Fit control_fields
    control_fit = search bit_lt depth 20

    -- it is a word
    pub control_lt : control_bits < 65536
    control_lt = rw control_is (number_lt control_fields control_fit)

    -- each field is read as it was put in
    pub control_back : (w : ℕ) → w ≡ control_bits → (i : ℕ) → at (read w 0 control_fields) i ≡ at control_fields i
    control_back w e = value w control_fields control_fit (e ∙ control_is)

-- ---- TSR and RSR: a number of 2 bits at 0 and at 2, and flags

module _ (n0 n2 : ℕ) (b4 b5 b6 b7 b8 b9 b10 b11 b12 b13 b14 b15 : Bool) where
  abbrev pub status_bits : ℕ
  status_bits =
      n0 * 2 ^ 0
      + n2 * 2 ^ 2
      + set_at 4 b4
      + set_at 5 b5
      + set_at 6 b6
      + set_at 7 b7
      + set_at 8 b8
      + set_at 9 b9
      + set_at 10 b10
      + set_at 11 b11
      + set_at 12 b12
      + set_at 13 b13
      + set_at 14 b14
      + set_at 15 b15

  abbrev pub status_fields : List Field
  status_fields =
      field 2 n0
      ∷ field 2 n2
      ∷ flag b4
      ∷ flag b5
      ∷ flag b6
      ∷ flag b7
      ∷ flag b8
      ∷ flag b9
      ∷ flag b10
      ∷ flag b11
      ∷ flag b12
      ∷ flag b13
      ∷ flag b14
      ∷ flag b15
      ∷ []

  pub status_is : status_bits ≡ number status_fields
  status_is = omega arith

  module _ (a : n0 < 2 ^ 2) (b : n2 < 2 ^ 2) where
    status_fit : Fit status_fields
    status_fit = search bit_lt depth 20

    pub status_lt : status_bits < 65536
    status_lt = rw status_is (number_lt status_fields status_fit)

    pub status_back : (w : ℕ) → w ≡ status_bits → (i : ℕ) → at (read w 0 status_fields) i ≡ at status_fields i
    status_back w e = value w status_fields status_fit (e ∙ status_is)
