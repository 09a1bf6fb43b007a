-- What a fit leaves that is done: no two units have one address, every side is closed, every receiver's silo is empty, and every serial is 0.
-- Assumes nothing.
use Rattle.std.specs.Prelude.{Bool, true, false, ◌&&◌, ◌||◌, List, ◌≡◌, refl, eqb, leb, ltb, length}
use Rattle.std.proofs.Math.Bool.{not, true≢false}
use Rattle.std.proofs.Math.Logic.{⊎_elim}
use Rattle.std.proofs.Common.{sym, ap, subst, ◌∙◌, le_of_suc-le-suc, not-suc-le-zero, eq-or-lt_of_le, arith}
use Prim.Native.Nat.{ℕ, zero, suc, ◌%◌, ◌≤◌, ◌<◌}
use borrow.Author.Tests.{eq-eqb, le-ltb, ltb-false, not-true}
use Rattle.cells.specs.Fitted.{transmitter_of, receiver_of}
use Rattle.cells.specs.Index.{Indexed}
use Rattle.cells.specs.Layout.{count_in, receiver_address, transmitter_address, unit_place}
use Rattle.cells.specs.Ranges.{in_range}
use Rattle.fitting.specs.Fit.{fit}
use Rattle.fitting.specs.SetUp.{again, count_of, number_of, set_up_good, taken_by, unit_good, units_good}
use Rattle.fitting.specs.Laws.SetUpLaws.{good_says}
use Rattle.frames.specs.Laws.Fits.{fit_indexed, fit_ranged}
use Rattle.frames.specs.Laws.Fresh.{fit_count, fit_started}
use Rattle.frames.specs.Laws.Started.{Started}
use Rattle.laws.specs.Pick.{past, pick}
use Rattle.laws.specs.Laws.Both.{left_of, right_of}
use Rattle.pcl.specs.Link.{room_for}
use Rattle.receiver.specs.declared.side.Receiver.{Receiver}
use Rattle.silos.specs.Silo.{count}
use Rattle.transmitter.specs.declared.side.Transmitter.{Transmitter}

-- no two units have one transmitter address, or one receiver address, and the index says who has which
pub record Apart (cells : List ℕ) : Type 0 where
  pub sends : (a b : ℕ) → a < count_in cells → b < count_in cells → transmitter_address cells a ≡ transmitter_address cells b → a ≡ b
  pub receives : (a b : ℕ) → a < count_in cells → b < count_in cells → receiver_address cells a ≡ receiver_address cells b → a ≡ b
  pub indexed : Indexed cells

pub record Begins (cells : List ℕ) : Type 0 where
  pub ranged : in_range cells ≡ true
  pub apart : Apart cells
  pub closed : (k : ℕ) → k < count_in cells → (transmitter_of cells k).end.opened ≡ false
  pub closed_there : (k : ℕ) → k < count_in cells → (receiver_of cells k).end.opened ≡ false
  pub empty : (k : ℕ) → k < count_in cells → count (receiver_of cells k).end.silo ≡ 0
  pub serials : (k : ℕ) → k < count_in cells → (transmitter_of cells k).end.serial ≡ 0
  pub serials_there : (k : ℕ) → k < count_in cells → (receiver_of cells k).end.serial ≡ 0

-- ---- "no two equal"

or_left : (a b : Bool) → (a || b) ≡ false → a ≡ false
or_left false b e = refl
or_left true b e = e

or_right : (a b : Bool) → (a || b) ≡ false → b ≡ false
or_right false b e = e
or_right true b e = absurd (true≢false e)

module _ (setup : List ℕ) (k : ℕ) where
  not_taken : (wanted n : ℕ) → taken_by setup k wanted n ≡ false → (a : ℕ) → a < n → number_of setup a k ≡ wanted → ⊥
  unfolding taken_by
  not_taken wanted zero free a h same = absurd (not-suc-le-zero h)
  not_taken wanted (suc n) free a h same =
      ⊎_elim
      (λ (q : a ≡ n).
      true≢false
      (sym (eq-eqb (number_of setup n k) wanted (subst (λ (m : ℕ). number_of setup m k ≡ wanted) q same))
      ∙ or_right (taken_by setup k wanted n) (eqb (number_of setup n k) wanted) free))
      (λ l. not_taken wanted n (or_left (taken_by setup k wanted n) (eqb (number_of setup n k) wanted) free) a l same)
      (eq-or-lt_of_le (le_of_suc-le-suc h))

-- each unit's addresses are none of those before it
module _ (setup : List ℕ) where
  one_fewer : (n : ℕ) → units_good setup (suc n) ≡ true → (units_good setup n ≡ true) × (again setup 0 n ≡ false) × (again setup 1 n ≡ false)
  unfolding units_good
  one_fewer n ok =
      let three = left_of (units_good setup n && unit_good setup n && not (again setup 0 n)) (not (again setup 1 n)) ok in
      let two = left_of (units_good setup n && unit_good setup n) (not (again setup 0 n)) three in (
        left_of (units_good setup n) (unit_good setup n) two,
        not-true (again setup 0 n) (right_of (units_good setup n && unit_good setup n) (not (again setup 0 n)) three),
        not-true (again setup 1 n) (right_of (units_good setup n && unit_good setup n && not (again setup 0 n)) (not (again setup 1 n)) ok),
      )

  module _ (k : ℕ) (alone : (n : ℕ) → units_good setup (suc n) ≡ true → again setup k n ≡ false) where
    each_apart : (n : ℕ) → units_good setup n ≡ true → (a b : ℕ) → a < n → b < n → number_of setup a k ≡ number_of setup b k → a ≡ b
    each_apart zero ok a b h l same = absurd (not-suc-le-zero h)
    each_apart (suc n) ok a b h l same =
        let taken = not_taken setup k (number_of setup n k) n (alone n ok) in
        ⊎_elim
        (λ (p : a ≡ n).
        ⊎_elim (λ (q : b ≡ n). p ∙ sym q) (λ m. absurd (taken b m (sym same ∙ ap (λ (i : ℕ). number_of setup i k) p)))
        (eq-or-lt_of_le (le_of_suc-le-suc l)))
        (λ m.
        ⊎_elim (λ (q : b ≡ n). absurd (taken a m (same ∙ ap (λ (i : ℕ). number_of setup i k) q)))
        (λ j. each_apart n (one_fewer n ok).0 a b m j same) (eq-or-lt_of_le (le_of_suc-le-suc l)))
        (eq-or-lt_of_le (le_of_suc-le-suc h))

-- ---- the fit

last_test : (t b : Bool) → pick t false b ≡ true → b ≡ true
last_test true b e = absurd (true≢false (sym e))
last_test false b e = e

good_units : (setup : List ℕ) → set_up_good setup ≡ true → units_good setup (count_of setup) ≡ true
good_units setup good =
    last_test (not (leb (count_of setup) 16)) _ (last_test (eqb (count_of setup) 0) _ (last_test (not (eqb (length setup % 4) 0)) _ good))

pub fit_begins : (cells setup : List ℕ) → set_up_good setup ≡ true → ltb (length cells) (room_for (count_of setup)) ≡ false → Begins (fit cells setup)
fit_begins cells setup good enough =
    let g = good_says setup good in
    let few : unit_place (count_of setup) ≡ room_for (count_of setup) = past _ (le-ltb _ _ g.most) refl in
    let room : unit_place (count_of setup) ≤ length cells = omega (arith, few, ltb-false (length cells) (room_for (count_of setup)) enough) in
    let units : count_in (fit cells setup) ≡ count_of setup = fit_count setup cells good room in
    let within : (k : ℕ) → k < count_in (fit cells setup) → k < count_of setup = λ k h. omega arith in
    let started : (k : ℕ) → k < count_in (fit cells setup) → Started setup k (fit cells setup) = λ k h. fit_started setup cells good room k (within k h) in
    let ok = good_units setup good in
    record {
      ranged = fit_ranged setup cells good room;
      apart =
          record {
            sends = λ a b h l same.
                each_apart setup 0 (λ n x. (one_fewer setup n x).1) (count_of setup) ok a b (within a h) (within b l)
                (sym (started a h).transmitter_at ∙ same ∙ (started b l).transmitter_at);
            receives = λ a b h l same.
                each_apart setup 1 (λ n x. (one_fewer setup n x).2) (count_of setup) ok a b (within a h) (within b l)
                (sym (started a h).receiver_at ∙ same ∙ (started b l).receiver_at);
            indexed = fit_indexed setup cells good room;
          };
      closed = λ k h. ap (λ (t : Transmitter). t.end.opened) (started k h).transmitter;
      closed_there = λ k h. ap (λ (r : Receiver). r.end.opened) (started k h).receiver;
      empty = λ k h. ap (λ (r : Receiver). count r.end.silo) (started k h).receiver;
      serials = λ k h. ap (λ (t : Transmitter). t.end.serial) (started k h).transmitter;
      serials_there = λ k h. ap (λ (r : Receiver). r.end.serial) (started k h).receiver;
    }
