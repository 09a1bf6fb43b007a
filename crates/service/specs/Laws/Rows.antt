-- A row of bits: how large it is, how it grows by a unit, and what each of its bits is.
-- Assumes nothing.
use Rattle.std.specs.Prelude.{Bool, ◌&&◌, ◌≡◌, ltb}
use Rattle.std.proofs.Math.Path.{ap}
use Rattle.std.proofs.Common.{sym, ◌∙◌, div-one, not-suc-le-zero, zero-add, ltb-true, ltb-false, pow_mono, shr-shr}
use Prim.Native.Nat.{ℕ, zero, suc, ◌+◌, ◌-◌, ◌*◌, ◌/◌, ◌%◌, ◌^◌, ◌≤◌, ◌<◌}
use Rattle.std.proofs.Math.Nat.{add-zero, div-eq_of_lt, sub-zero}
use native.Mathlib.Omega.{arith}
use Rattle.std.proofs.Math.Dec.{lit<}
use Rattle.std.proofs.Math.Pow.{field, mod-mod-pow}
use Rattle.laws.specs.Bits.{bit, bit_at, on}
use Rattle.laws.specs.Pick.{by}
use Rattle.laws.specs.Laws.Fields.{bit_lt, bits_are, on_bit}
use Rattle.service.specs.Wants.{row_of, mask_of}

-- the row of the units from `u` on, of a count of at most 16
pub record Row (stands : ℕ → Bool) (count u row : ℕ) : Type 0 where
  pub same : row ≡ row_of stands (count - u) u
  pub fits : row < 65536

module _ (stands : ℕ → Bool) where
  pub row_lt : (left u : ℕ) → row_of stands left u < 2 ^ left
  unfolding row_of
  row_lt zero u = lit< tt
  row_lt (suc left) u = omega (arith, row_lt left (suc u), bit_lt (stands u))

  pub row_is : (count u row : ℕ) → count ≤ 16 → row ≡ row_of stands (count - u) u → Row stands count u row
  row_is count u row few e =
      let most : count - u ≤ 16 = omega arith in record { same = e; fits = omega (arith, row_lt (count - u) u, pow_mono most) }

  -- of no unit
  pub no_row : (count : ℕ) → count ≤ 16 → Row stands count count 0
  unfolding row_of
  no_row count few = let none : count - count ≡ 0 = omega arith in row_is count count 0 few (rw none)

  grows : (count u : ℕ) → 0 < u → u ≤ count → row_of stands (count - u) u * 2 + bit (stands (u - 1)) ≡ row_of stands (count - (u - 1)) (u - 1)
  unfolding row_of
  grows count u some most =
      let e : count - (u - 1) ≡ suc (count - u) = omega arith in
      let f : suc (u - 1) ≡ u = omega arith in
      rw (e, f)

  -- of a unit more
  pub row_grows : (count u row : ℕ) (flag : Bool) → count ≤ 16 → 0 < u → u ≤ count → Row stands count u row → flag ≡ stands (u - 1)
      → Row stands count (u - 1) (row * 2 + bit flag)
  row_grows count u row flag few some most r e =
      row_is count (u - 1) (row * 2 + bit flag) few (rw (r.same, e) (grows count u some most))

  -- of all
  pub whole_row : (count u row : ℕ) → u ≡ 0 → Row stands count u row → row ≡ row_of stands count 0
  whole_row count u row e r = r.same ∙ rw (e, sub-zero)

  -- ---- what each bit is

  row_bit : (left u k : ℕ) → k < left → row_of stands left u / 2 ^ k % 2 ≡ bit (stands (u + k))
  unfolding row_of
  row_bit zero u k h = absurd (not-suc-le-zero h)
  row_bit (suc left) u zero h =
      let b : (row_of stands left (suc u) * 2 + bit (stands u)) % 2 ≡ bit (stands u) = omega (arith, bit_lt (stands u)) in
      rw (div-one, add-zero u) b
  row_bit (suc left) u (suc k) h =
      let x = row_of stands left (suc u) in
      let half : (x * 2 + bit (stands u)) / 2 ^ 1 ≡ x = omega (arith, bit_lt (stands u)) in
      let next : suc u + k ≡ u + suc k = omega arith in
      let places : 1 + k ≡ suc k = omega arith in
      ap (λ (j : ℕ). (x * 2 + bit (stands u)) / 2 ^ j % 2) (sym places)
      ∙ ap (λ (n : ℕ). n % 2) (sym (shr-shr (x * 2 + bit (stands u)) 1 k))
      ∙ ap (λ (n : ℕ). n / 2 ^ k % 2) half
      ∙ row_bit left (suc u) k (omega arith)
      ∙ ap (λ (j : ℕ). bit (stands j)) next

  row_none : (left u k : ℕ) → left ≤ k → row_of stands left u / 2 ^ k % 2 ≡ 0
  row_none left u k h =
      let none : row_of stands left u / 2 ^ k ≡ 0 = div-eq_of_lt (omega (arith, row_lt left u, pow_mono h)) in
      rw none

  -- of a unit that is counted, and of one that is not
  pub row_says : (count k : ℕ) → row_of stands count 0 / 2 ^ k % 2 ≡ bit (ltb k count && stands k)
  row_says count k =
      by (ltb k count)
      (λ e. rw e (row_bit count 0 k (ltb-true k count e) ∙ ap (λ (j : ℕ). bit (stands j)) (zero-add k)))
      (λ e. rw e (row_none count 0 k (ltb-false k count e)))

-- "bit u the transmitter of unit u, bit 16 + u its receiver"
module _ (transmitters receivers : ℕ → Bool) (count : ℕ) (few : count ≤ 16) where
  abbrev low : ℕ
  low = row_of transmitters count 0

  abbrev high : ℕ
  high = row_of receivers count 0

  low_fits : low < 65536
  low_fits = omega (arith, row_lt transmitters count 0, pow_mono few)

  -- there are no others
  pub mask_fits : mask_of transmitters receivers count < 2 ^ 32
  mask_fits = omega (arith, low_fits, row_lt receivers count 0, pow_mono few)

  module _ (u : ℕ) (h : u < 16) where
    -- a bit below the sixteenth goes by the low sixteen
    cut : (n : ℕ) → n / 2 ^ u % 2 ^ 1 ≡ n % 2 ^ 16 % 2 ^ (1 + u) / 2 ^ u
    cut n =
        let sum : 15 - u + (1 + u) ≡ 16 = omega arith in
        sym (ap (λ (k : ℕ). n % 2 ^ k % 2 ^ (1 + u) / 2 ^ u) (sym sum) ∙ ap (λ (m : ℕ). m / 2 ^ u) (mod-mod-pow n (15 - u) (1 + u)) ∙ field n 1 u)

    pub low_bit : bit_at (mask_of transmitters receivers count) u ≡ ltb u count && transmitters u
    low_bit =
        let same : (low + high * 2 ^ 16) % 2 ^ 16 ≡ low % 2 ^ 16 = omega arith in
        ap on (bits_are (low + high * 2 ^ 16) u 1 ∙ cut (low + high * 2 ^ 16) ∙ ap (λ (m : ℕ). m % 2 ^ (1 + u) / 2 ^ u) same ∙ sym (cut low) ∙ row_says transmitters count u)
        ∙ on_bit (ltb u count && transmitters u)

    pub high_bit : bit_at (mask_of transmitters receivers count) (16 + u) ≡ ltb u count && receivers u
    high_bit =
        let above : (low + high * 2 ^ 16) / 2 ^ 16 ≡ high = omega (arith, low_fits) in
        ap on
        (bits_are (low + high * 2 ^ 16) (16 + u) 1
        ∙ ap (λ (m : ℕ). m % 2 ^ 1) (sym (shr-shr (low + high * 2 ^ 16) 16 u) ∙ ap (λ (m : ℕ). m / 2 ^ u) above)
        ∙ row_says receivers count u)
        ∙ on_bit (ltb u count && receivers u)
