-- What a good set-up says of its numbers.
-- Assumes nothing.
use Rattle.std.specs.Prelude.{Bool, true, false, not, ◌&&◌, List, ◌≡◌, refl, ℕ, zero, suc, ◌%◌, ◌≤◌, ◌<◌, leb, length}
use Rattle.std.proofs.Common.{true≢false, ⊎_elim, sym, le_of_suc-le-suc, not-suc-le-zero, eq-or-lt_of_le, arith, leb-true, eqb-true}
use Rattle.std.proofs.lemmas.Bool.{eqb-false, not-false}
use Rattle.laws.specs.Pick.{pick}
use Rattle.laws.specs.Laws.Both.{left_of, right_of}
use Rattle.fitting.specs.SetUp.{between, number_of, unit_good, again, units_good, count_of, set_up_good}

-- one unit's numbers
pub record UnitGood (setup : List ℕ) (unit : ℕ) : Type 0 where
  pub transmitter : (1 ≤ number_of setup unit 0) × (number_of setup unit 0 ≤ 31)
  pub receiver : (1 ≤ number_of setup unit 1) × (number_of setup unit 1 ≤ 31)
  pub switch : (2 ≤ number_of setup unit 2) × (number_of setup unit 2 ≤ 31)
  pub memory : (1 ≤ number_of setup unit 3) × (number_of setup unit 3 ≤ 131072)

between_says : (low x high : ℕ) → between low x high ≡ true → (low ≤ x) × (x ≤ high)
between_says low x high e = (leb-true low x (left_of (leb low x) (leb x high) e), leb-true x high (right_of (leb low x) (leb x high) e))

pub unit_says : (setup : List ℕ) (unit : ℕ) → unit_good setup unit ≡ true → UnitGood setup unit
unit_says setup unit ok =
    let a = between 1 (number_of setup unit 0) 31 in
    let b = between 1 (number_of setup unit 1) 31 in
    let s = between 2 (number_of setup unit 2) 31 in
    let m = between 1 (number_of setup unit 3) 131072 in
    let abs = left_of (a && b && s) m ok in
    let ab = left_of (a && b) s abs in
    record {
      transmitter = between_says 1 (number_of setup unit 0) 31 (left_of a b ab);
      receiver = between_says 1 (number_of setup unit 1) 31 (right_of a b ab);
      switch = between_says 2 (number_of setup unit 2) 31 (right_of (a && b) s abs);
      memory = between_says 1 (number_of setup unit 3) 131072 (right_of (a && b && s) m ok);
    }

pub each_good : (setup : List ℕ) (n : ℕ) → units_good setup n ≡ true → (unit : ℕ) → unit < n → UnitGood setup unit
unfolding units_good
each_good setup zero ok unit h = absurd (not-suc-le-zero h)
each_good setup (suc n) ok unit h =
    let three = left_of (units_good setup n && unit_good setup n && not (again setup 0 n)) (not (again setup 1 n)) ok in
    let two = left_of (units_good setup n && unit_good setup n) (not (again setup 0 n)) three in
    ⊎_elim (λ q. rw q (unit_says setup n (right_of (units_good setup n) (unit_good setup n) two)))
    (each_good setup n (left_of (units_good setup n) (unit_good setup n) two) unit) (eq-or-lt_of_le (le_of_suc-le-suc h))

-- a good set-up
pub record Good (setup : List ℕ) : Type 0 where
  pub whole : length setup % 4 ≡ 0
  pub least : 1 ≤ count_of setup
  pub most : count_of setup ≤ 16
  pub units : (unit : ℕ) → unit < count_of setup → UnitGood setup unit

refused : (t b : Bool) → pick t false b ≡ true → (t ≡ false) × (b ≡ true)
refused true b e = absurd (true≢false (sym e))
refused false b e = (refl, e)

pub good_says : (setup : List ℕ) → set_up_good setup ≡ true → Good setup
good_says setup ok =
    let whole = refused _ _ ok in
    let some = refused _ _ whole.1 in
    let few = refused _ _ some.1 in
    record {
      whole = eqb-true (length setup % 4) 0 (not-false _ whole.0);
      least = omega (arith, eqb-false (count_of setup) 0 some.0);
      most = leb-true (count_of setup) 16 (not-false _ few.0);
      units = each_good setup (count_of setup) few.1;
    }
