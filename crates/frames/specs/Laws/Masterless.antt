-- A slice with no master: a unit takes over, or every transmitter misses the master; every receiver is as it was.
-- Assumes nothing.
use Rattle.std.specs.Prelude.{Bool, true, ◌≡◌, refl, eqb, ltb, None}
use mathlib.Core.List.{List}
use Rattle.std.proofs.Math.Path.{sym, subst⁻¹}
use Rattle.std.proofs.Common.{ap, subst, ◌∙◌, arith, eq-eqb, eqb-true, lt-ltb, le-ltb, ltb-true, ltb-false}
use Prim.Native.Nat.{ℕ, zero, suc, ◌+◌, ◌<◌, ◌≤◌}
use Rattle.std.proofs.lemmas.Bool.{eqb-false}
use Rattle.bus.specs.Masterless.{taken_over_by, missed_up_to, without_master}
use Rattle.bus.specs.Slice.{slice_passed}
use Rattle.bus.specs.declared.slice.Given.{Given}
use Rattle.cells.specs.Fitted.{transmitter_of, master_of, put_transmitter}
use Rattle.cells.specs.Ranges.{in_range}
use Rattle.cells.specs.Layout.{count_in, holder_in, secondary_in}
use Rattle.cells.specs.Search.{first_secondary}
use Rattle.cells.specs.Laws.SearchLaws.{fitted}
use Rattle.laws.specs.Pick.{pick, here, past, either}
use Rattle.master.specs.Laws.Laws.{within_taken_over}
use Rattle.master.specs.Section.{taken_over}
use Rattle.transmitter.specs.Down.{misses_master, master_missed}
use Rattle.transmitter.specs.Laws.Keeps.{within_missed}
use Rattle.transmitter.specs.declared.side.Transmitter.{Transmitter}
use Rattle.frames.specs.Laws.Leaves.{Leaves, Anywhere, stays, agrees, transmitter_within, master_within, alike}
use Rattle.frames.specs.Laws.Sides.{Sides, sides_of, with_holder, with_transmitters, with_transmitter, with_master}
use Rattle.frames.specs.Laws.Stores.{transmitter_stored, master_stored, transmitter_left, holder_stored}

-- ---- on the sides, as `bus` has it on the cells

abbrev pub taken_over_on : Sides → ℕ → Sides
taken_over_on s unit = with_holder (with_master s unit (taken_over (s.master unit))) (unit + 1)

-- the first n transmitters missed the master
abbrev missed_to : ℕ → Sides → Sides
missed_to n s = with_transmitters s (λ k. pick (ltb k n) (master_missed (s.transmitter k)) (s.transmitter k))

abbrev pub missed_on : Sides → Sides
missed_on s = with_transmitters s (λ k. master_missed (s.transmitter k))

abbrev pub masterless_on : Sides → ℕ → Sides
masterless_on s unit = pick (ltb unit 16) (taken_over_on s unit) (missed_on s)

-- ---- the transmitters, one after the other

-- transmitters that agree with those left are left
each_agrees : {cells after : List ℕ} {s : Sides} → Leaves Anywhere cells after s → (f : ℕ → Transmitter) → ((k : ℕ) → k < count_in cells → s.transmitter k ≡ f k)
    → Leaves Anywhere cells after (with_transmitters s f)
each_agrees l f same = agrees l (record { holder = refl; transmitter = same; receiver = λ k there. refl; master = λ k there. refl })

-- one more: the unit n itself, those before it, and the others
one_more : (f : ℕ → Transmitter) (n k : ℕ)
    → pick (eqb k n) (master_missed (f n)) (pick (ltb k n) (master_missed (f k)) (f k)) ≡ pick (ltb k (suc n)) (master_missed (f k)) (f k)
one_more f n k =
    let P : Transmitter → Type 0 = λ t. t ≡ pick (ltb k (suc n)) (master_missed (f k)) (f k) in
    either P (eqb k n)
    (λ e. let same : k ≡ n = eqb-true k n e in here _ (lt-ltb k (suc n) (omega arith)) (ap (λ (i : ℕ). master_missed (f i)) (sym same)))
    (λ other. either P (ltb k n) (λ e. here _ (lt-ltb k (suc n) (omega (arith, ltb-true k n e))) refl)
    (λ e. past _ (le-ltb k (suc n) (omega (arith, ltb-false k n e, eqb-false k n other))) refl))

module _ (cells : List ℕ) (ok : in_range cells ≡ true) where
  missed : (n : ℕ) → n ≤ count_in cells → Leaves Anywhere cells (missed_up_to n cells) (missed_to n (sides_of cells))
  unfolding missed_up_to
  missed zero h = each_agrees (stays ok) (missed_to 0 (sides_of cells)).transmitter (λ k there. past _ (le-ltb k 0 (omega arith)) refl)
  missed (suc n) h =
      let l = missed n (omega arith) in
      let e : transmitter_of (missed_up_to n cells) n ≡ transmitter_of cells n = l.holds.transmitter n h ∙ sym (past _ (le-ltb n n (omega arith)) refl) in
      let t = transmitter_of cells n in
      let now = missed_up_to n cells in
      let P : List ℕ → Type 0 = λ after. Leaves Anywhere cells after (with_transmitter (missed_to n (sides_of cells)) n (master_missed t)) in
      each_agrees
      (subst⁻¹ (λ (x : Transmitter). P (pick (misses_master x) (put_transmitter now n (master_missed x)) now)) e
      (either P (misses_master t) (λ some. transmitter_stored l n h tt (master_missed t) (within_missed t (transmitter_within (stays ok) n h)))
      (λ none. transmitter_left l n h (master_missed t) (sym (past _ none refl) ∙ sym e ∙ l.holds.transmitter n h))))
      (missed_to (suc n) (sides_of cells)).transmitter (λ k there. one_more (transmitter_of cells) n k)

  missed_all : Leaves Anywhere cells (missed_up_to (count_in cells) cells) (missed_on (sides_of cells))
  missed_all =
      each_agrees (missed (count_in cells) (omega arith)) (λ k. master_missed (transmitter_of cells k))
      (λ k there. sym (here _ (lt-ltb k (count_in cells) there) refl))

  taken_over_lem : (unit : ℕ) → unit < count_in cells → Leaves Anywhere cells (taken_over_by cells unit) (taken_over_on (sides_of cells) unit)
  taken_over_lem unit there =
      let m = master_of cells unit in
      holder_stored (master_stored (stays ok) unit there tt (taken_over m) (within_taken_over m (master_within (stays ok) unit there))) (unit + 1) (omega arith)

  -- "the lowest unit with SEC takes MASTER and NOW MST and loses SEC; if there is none, every transmitter .. gets MST DWN"
  pub without_leaves : Leaves Anywhere cells (without_master cells) (masterless_on (sides_of cells) (first_secondary cells (count_in cells)))
  without_leaves =
      let unit = first_secondary cells (count_in cells) in
      alike (Leaves Anywhere cells) (ltb unit 16)
      (λ e. taken_over_lem unit (omega (arith, fitted (secondary_in cells) 1 (count_in cells) 0 (ltb-true unit 16 e)))) (λ e. missed_all)

  pub without_taken : (unit : ℕ) → first_secondary cells (count_in cells) ≡ unit → unit < 16 → Leaves Anywhere cells (without_master cells) (taken_over_on (sides_of cells) unit)
  without_taken unit e near =
      subst (Leaves Anywhere cells (without_master cells)) (ap (masterless_on (sides_of cells)) e ∙ sym (here _ (lt-ltb unit 16 near) refl)) without_leaves

  pub without_none : first_secondary cells (count_in cells) ≡ 16 → Leaves Anywhere cells (without_master cells) (missed_on (sides_of cells))
  without_none e = subst (λ (n : ℕ). Leaves Anywhere cells (without_master cells) (masterless_on (sides_of cells) n)) e without_leaves

-- "Answer 8, nothing sent."
pub no_master : (cells : List ℕ) (mask : ℕ) (parity : Bool) → holder_in cells ≡ 0 → slice_passed cells mask parity ≡ (None, without_master cells)
no_master cells mask parity e = sym (here _ (eq-eqb (holder_in cells) 0 e) refl)
