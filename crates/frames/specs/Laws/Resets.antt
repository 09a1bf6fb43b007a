-- TX INIT, a reset and a period at a fitted unit: what its own sides become; every other unit's are as they were.
-- Assumes nothing.
use Rattle.std.specs.Prelude.{true, List, ◌≡◌, refl, ℕ, ◌+◌, ◌<◌, ◌≤◌, eqb}
use Rattle.std.proofs.Math.Path.{subst⁻¹}
use Rattle.std.proofs.Common.{◌∙◌, arith, ne_eqb}
use Rattle.accesses.specs.Masters.{released}
use Rattle.accesses.specs.Writing.{transmitter_reset, unit_reset}
use Rattle.cells.specs.Fitted.{transmitter_of, receiver_of, master_of, put_receiver}
use Rattle.cells.specs.Ranges.{in_range}
use Rattle.cells.specs.Layout.{count_in, holder_in}
use Rattle.laws.specs.Pick.{pick, either}
use Rattle.master.specs.Laws.Laws.{within_init}
use Rattle.master.specs.Side as M
use Rattle.moves.specs.Periods.{transmitter_period, unit_period}
use Rattle.receiver.specs.Laws.Keeps as RK
use Rattle.receiver.specs.Periods as RP
use Rattle.receiver.specs.Side as R
use Rattle.receiver.specs.declared.side.Receiver.{Receiver}
use Rattle.transmitter.specs.Laws.Keeps as TK
use Rattle.transmitter.specs.Periods as TP
use Rattle.transmitter.specs.Side as T
use Rattle.frames.specs.Laws.Leaves.{Leaves, At, stays_at, transmitter_within, receiver_within, master_within}
use Rattle.frames.specs.Laws.Sides.{Sides, sides_of, with_holder, with_transmitter, with_receiver, with_master}
use Rattle.frames.specs.Laws.Stores.{transmitter_stored, receiver_stored, master_stored, transmitter_left, receiver_left, holder_stored}
use Rattle.frames.specs.Laws.Kept.{holder_most}

-- on the sides, as `accesses` and `moves` have them on the cells
abbrev pub initialised_on : Sides → ℕ → Sides
initialised_on s unit = with_transmitter (with_holder (with_master s unit (M.initialised (s.master unit))) (released s.holder unit)) unit (T.initialised (s.transmitter unit))

abbrev pub reset_on : Sides → ℕ → Sides
reset_on s unit = with_receiver (initialised_on s unit) unit (R.initialised (s.receiver unit))

abbrev pub period_on : Sides → ℕ → Sides
period_on s unit =
    with_receiver (with_transmitter s unit (TP.period_passed (s.transmitter unit))) unit (RP.period_passed (s.receiver unit))

-- MASTER of another unit stays
pub released_other : (holder unit : ℕ) → (holder ≡ unit + 1 → ⊥) → released holder unit ≡ holder
released_other holder unit other = rw (ne_eqb holder (unit + 1) other)

module _ (cells : List ℕ) (ok : in_range cells ≡ true) (unit : ℕ) (fitted : unit < count_in cells) where
  pub init_leaves : Leaves (At unit) cells (transmitter_reset cells unit) (initialised_on (sides_of cells) unit)
  init_leaves =
      let l = stays_at (At unit) ok in
      let m = master_of cells unit in
      let most = holder_most cells ok in
      transmitter_stored
      (holder_stored (master_stored l unit fitted refl (M.initialised m) (within_init m (master_within l unit fitted)))
      (released (holder_in cells) unit)
      (either (λ (n : ℕ). n ≤ count_in cells) (eqb (holder_in cells) (unit + 1)) (λ e. omega arith) (λ e. most)))
      unit fitted refl (T.initialised (transmitter_of cells unit)) (TK.within_initial (transmitter_within l unit fitted).end.serial)

  pub reset_leaves : Leaves (At unit) cells (unit_reset cells unit) (reset_on (sides_of cells) unit)
  reset_leaves =
      receiver_stored init_leaves unit fitted refl (R.initialised (receiver_of cells unit))
      (RK.within_initial (receiver_within (stays_at (At unit) ok) unit fitted).end.serial)

  -- "Reset does both sides": who is master stays where it is another, or nobody
  pub reset_holder : (holder_in cells ≡ unit + 1 → ⊥) → holder_in (unit_reset cells unit) ≡ holder_in cells
  reset_holder other = reset_leaves.holds.holder ∙ released_other (holder_in cells) unit other

  period_sent : Leaves (At unit) cells (transmitter_period cells unit) (with_transmitter (sides_of cells) unit (TP.period_passed (transmitter_of cells unit)))
  period_sent =
      let l = stays_at (At unit) ok in
      let t = transmitter_of cells unit in
      let h = transmitter_within l unit fitted in
      either (λ after. Leaves (At unit) cells after (with_transmitter (sides_of cells) unit (TP.period_passed t))) (T.is_busy t)
      (λ busy. transmitter_stored l unit fitted refl (TP.period_passed t) (TK.within_period t h))
      (λ idle. transmitter_left l unit fitted (TP.period_passed t) (TK.period_stays t h idle))

  pub period_leaves : Leaves (At unit) cells (unit_period cells unit) (period_on (sides_of cells) unit)
  period_leaves =
      let l = period_sent in
      let sent = transmitter_period cells unit in
      let r = receiver_of cells unit in
      let h = receiver_within l unit fitted in
      subst⁻¹ (λ (x : Receiver). Leaves (At unit) cells (pick x.end.opened (put_receiver sent unit (RP.period_passed x)) sent) (period_on (sides_of cells) unit))
      (l.holds.receiver unit fitted)
      (either (λ after. Leaves (At unit) cells after (period_on (sides_of cells) unit)) r.end.opened
      (λ opened. receiver_stored l unit fitted refl (RP.period_passed r) (RK.within_period r h))
      (λ shut. receiver_left l unit fitted (RP.period_passed r) (RK.period_stays r h shut)))
