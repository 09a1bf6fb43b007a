-- The calls at a unit that leave a message where it stands: a read anywhere, and a reset or a period elsewhere.
-- Assumes nothing.
use Rattle.std.specs.Prelude.{true, false, not, List, ◌≡◌, refl, ℕ, ◌<◌, leb, Result, Ok, Err}
use Rattle.std.proofs.Common.{ap, ap₂, subst, sym, ◌∙◌, arith, leb-false}
use Rattle.accesses.specs.Reading.{unit_read}
use Rattle.accesses.specs.Writing.{unit_reset}
use Rattle.cells.specs.Fitted.{transmitter_of, receiver_of}
use Rattle.cells.specs.Layout.{count_in}
use Rattle.cells.specs.Ranges.{in_range}
use Rattle.promise.specs.Kinds.{quiet}
use Rattle.delivery.specs.Laws.Slices.{State}
use Rattle.frames.specs.Laws.Keeps.{period_others, reset_others}
use Rattle.frames.specs.Laws.Reads.{SameCycle, read_cycle, read_holder, read_leaves, read_receiver, read_transmitter}
use Rattle.frames.specs.Laws.Resets.{period_leaves, reset_holder, reset_leaves}
use Rattle.laws.specs.Pick.{by, either, here, past}
use Rattle.master.specs.Cycle.{counter_cycle, cycle_of}
use Rattle.master.specs.Ring.{addresses_in}
use Rattle.master.specs.declared.side.Master.{Master}
use Rattle.moves.specs.Periods.{unit_period}
use Rattle.outcomes.specs.Unchanged.{leaves_all}
use Rattle.pcl.specs.Calls.{at_unit, read_by}
use Rattle.pcl.specs.Numbers.{done_number}
use Rattle.promise.specs.Conditions.{Allowed, Elsewhere}
use Rattle.promise.proofs.Laws.Follows.{Follows, Undisturbed, master_fitted, nothing_done, receiver_fitted, sender_fitted, undisturbed}
use Rattle.promise.specs.Opening.{Parties, message_in}
use Rattle.promise.proofs.Laws.Opens.{Opens}
use Rattle.promise.proofs.Laws.Standing.{Standing}
use Rattle.promise.specs.World.{World, period, read, reset, step, with_cells}
use Rattle.words.specs.declared.answers.Refusal.{Refusal}

-- a section that gives the addresses of its slices from the same place on has the same ring
same_ring : (before after : Master) → SameCycle before after → cycle_of after ≡ cycle_of before
same_ring before after same =
    by before.auto_address
    (λ e. sym (here _ (same.auto_address ∙ e) refl) ∙ ap₂ counter_cycle same.place same.switch ∙ here _ e refl)
    (λ e. sym (past _ (same.auto_address ∙ e) refl) ∙ ap addresses_in (same.addresses e) ∙ past _ e refl)

module _ (p : Parties) (start : World) (o : Opens p start) (q : State) (w : World) (s : Standing p start q w) (unit : ℕ) where
  -- a call at a unit, past its tests: what is done there leaves the message
  pub at_unit_lem : {A : Type 0} (bad_state no_unit : A) (rest : A × List ℕ)
      → (unit < count_in w.cells → at_unit w.cells unit bad_state no_unit rest ≡ rest → Undisturbed p start q w s rest.1)
      → Follows p start q w quiet (with_cells w (at_unit w.cells unit bad_state no_unit rest).1)
  at_unit_lem {A} bad_state no_unit rest f =
      let By : A × List ℕ → Type 0 =
      λ r. at_unit w.cells unit bad_state no_unit rest ≡ r → Follows p start q w quiet (with_cells w r.1) in
      let none = undisturbed p start q w s w.cells (nothing_done p start q w s) in
      either By (not (in_range w.cells)) (λ e c. none)
      (λ e. either By (leb (count_in w.cells) unit) (λ e c. none)
      (λ e c. undisturbed p start q w s rest.1 (f (leb-false (count_in w.cells) unit e) c))) refl

  -- ---- reads at T and R too: RD SILO is clear at T, and RC NPR set at R

  pub read_follows : (offset : ℕ) → Follows p start q w quiet (step (read unit offset) w)
  read_follows offset =
      at_unit_lem (Err Refusal.BadState) (Err Refusal.NoUnit) (read_by (unit_read w.cells unit offset))
      (λ fitted c.
      let leaves = read_leaves w.cells s.ranged unit fitted offset in
      let d = s.delivering in (
        record {
          ranged = leaves.ranged;
          kept = leaves.kept;
          holder = read_holder w.cells s.ranged unit fitted offset;
          transmitter =
              read_transmitter w.cells s.ranged unit fitted offset p.sender (sender_fitted p start o q w s)
              (λ here e. subst (λ (k : ℕ). (transmitter_of w.cells k).modes.read_silo ≡ false) here d.sending.read_silo);
          receiver =
              read_receiver w.cells s.ranged unit fitted offset p.receiver (receiver_fitted p start o q w s)
              (λ here e. subst (λ (k : ℕ). (receiver_of w.cells k).modes.memory_requests ≡ true) here d.receiving.requests);
        },
        same_ring _ _ (read_cycle w.cells s.ranged unit fitted offset p.master (master_fitted p start o q w s)),
      ))

  -- ---- resets and periods

  pub reset_follows : Allowed p (message_in p start) (reset unit) w → Follows p start q w quiet (step (reset unit) w)
  reset_follows allowed =
      at_unit_lem (Err Refusal.BadState) (Err Refusal.NoUnit) (Ok tt, unit_reset w.cells unit)
      (λ fitted c.
      let (a, not_at_master) = allowed (ap (λ (r : Result (Unit {0}) Refusal × List ℕ). leaves_all (done_number r.0)) c) in
      let leaves = reset_leaves w.cells s.ranged unit fitted in
      let others = reset_others w.cells s.ranged unit fitted in (
        record {
          ranged = leaves.ranged;
          kept = leaves.kept;
          holder = reset_holder w.cells s.ranged unit fitted (λ e. not_at_master (omega (arith, s.mastered)));
          transmitter = others.transmitter p.sender (sender_fitted p start o q w s) (λ e. a.not_at_t (sym e));
          receiver = others.receiver p.receiver (receiver_fitted p start o q w s) (λ e. a.not_at_r (sym e));
        },
        ap cycle_of (others.master p.master (master_fitted p start o q w s) (λ e. not_at_master (sym e))),
      ))

  pub period_follows : Allowed p (message_in p start) (period unit) w → Follows p start q w quiet (step (period unit) w)
  period_follows allowed =
      at_unit_lem (Err Refusal.BadState) (Err Refusal.NoUnit) (Ok tt, unit_period w.cells unit)
      (λ fitted c.
      let a : Elsewhere p unit = allowed (ap (λ (r : Result (Unit {0}) Refusal × List ℕ). leaves_all (done_number r.0)) c) in
      let leaves = period_leaves w.cells s.ranged unit fitted in
      let others = period_others w.cells s.ranged unit fitted in (
        record {
          ranged = leaves.ranged;
          kept = leaves.kept;
          holder = leaves.holds.holder;
          transmitter = others.transmitter p.sender (sender_fitted p start o q w s) (λ e. a.not_at_t (sym e));
          receiver = others.receiver p.receiver (receiver_fitted p start o q w s) (λ e. a.not_at_r (sym e));
        },
        ap cycle_of (leaves.holds.master p.master (master_fitted p start o q w s)),
      ))
