-- A word or a byte written at a unit leaves a message where it stands: it is not at T or R and spares the master's section, or it is
-- refused.
-- Assumes nothing.
use Rattle.std.proofs.Math.Bool.{and-false}
use Rattle.std.specs.Prelude.{List, ◌≡◌, ℕ, ◌<◌, eqb, Result, Err}
use Rattle.std.proofs.Common.{inl, inr, ap, sym, ◌∙◌, arith, eqb-true}
use Rattle.std.proofs.Math.Path.{subst⁻¹}
use Rattle.std.proofs.lemmas.Bool.{eqb-false}
use Rattle.accesses.specs.Writing.{unit_byte_written, unit_written}
use Rattle.cells.specs.Layout.{count_in, holder_in}
use Rattle.promise.specs.Kinds.{quiet}
use Rattle.delivery.specs.Laws.Slices.{State}
use Rattle.frames.specs.Laws.Keeps.{WriteKeeps, byte_keeps, write_keeps}
use Rattle.frames.specs.Laws.Leaves.{Leaves}
use Rattle.frames.specs.Laws.Sides.{Sides}
use Rattle.frames.specs.Laws.Spared.{HeldElsewhere, SparesMaster}
use Rattle.frames.specs.Laws.Writes.{byte_leaves, write_leaves}
use Rattle.laws.specs.Pick.{by}
use Rattle.master.specs.Cycle.{cycle_of}
use Rattle.outcomes.specs.Unchanged.{leaves_all}
use Rattle.outcomes.specs.Laws.RefusedUnits.{unit_byte_refused, unit_write_refused}
use Rattle.pcl.specs.Calls.{written_by}
use Rattle.pcl.specs.Numbers.{write_call_number}
use Rattle.words.specs.Answers.{write_number}
use Rattle.promise.specs.Conditions.{Allowed, Write}
use Rattle.promise.proofs.Laws.Follows.{Follows, Undisturbed, nothing_done, master_fitted, receiver_fitted, sender_fitted}
use Rattle.promise.specs.Opening.{Parties, message_in}
use Rattle.promise.proofs.Laws.Opens.{Opens}
use Rattle.promise.proofs.Laws.Standing.{Standing}
use Rattle.promise.proofs.Laws.UnitEvents.{at_unit_lem}
use Rattle.promise.specs.World.{World, step, write, write_byte}
use Rattle.words.specs.declared.answers.Refusal.{Refusal}
use Rattle.words.specs.declared.answers.Write.{Write as Written}

module _ (p : Parties) (start : World) (o : Opens p start) (q : State) (w : World) (s : Standing p start q w) (unit : ℕ) (fitted : unit < count_in w.cells) where
  abbrev cells : List ℕ
  cells = w.cells

  spares_master : {offset value : ℕ} → Write p unit offset value → unit ≡ p.master → SparesMaster offset value
  spares_master {offset} {value} a here =
      record {
        low = λ e. a.not_tmmr here (inl e);
        high = λ e. a.not_tmmr here (inr e);
        start =
            by (eqb offset 0) (λ e. rw (a.not_tx_init here (eqb-true offset 0 e)) (and-false (eqb offset 0)))
            (λ e. rw e);
      }

  written_so : {touched : ℕ → Type 0} {offset value : ℕ} {after : List ℕ} {sides : Sides} → Write p unit offset value → Leaves touched cells after sides → WriteKeeps cells unit offset value after
      → Undisturbed p start q w s after
  written_so {offset = offset} {value = value} a leaves keeps =
      let elsewhere : (unit ≡ p.master → ⊥) → HeldElsewhere (holder_in cells) unit =
      λ other. record { held = λ e. omega (arith, s.mastered); other = λ e. other (omega (arith, s.mastered)) } in (
        record {
          ranged = leaves.ranged;
          kept = leaves.kept;
          holder =
              keeps.holder
              (by (eqb unit p.master) (λ e. inl (spares_master a (eqb-true unit p.master e))) (λ e. inr (elsewhere (eqb-false unit p.master e))));
          transmitter = keeps.transmitter p.sender (sender_fitted p start o q w s) (λ e. a.not_at_t (sym e));
          receiver = keeps.receiver p.receiver (receiver_fitted p start o q w s) (λ e. a.not_at_r (sym e));
        },
        ap cycle_of (keeps.master p.master (master_fitted p start o q w s) (λ e. spares_master a (sym e))),
      )

-- ---- the calls

module _ (p : Parties) (start : World) (o : Opens p start) (q : State) (w : World) (s : Standing p start q w) (unit offset : ℕ) where
  pub write_follows : (word : ℕ) → Allowed p (message_in p start) (write unit offset word) w → Follows p start q w quiet (step (write unit offset word) w)
  write_follows word allowed =
      at_unit_lem p start o q w s unit (Err Refusal.BadState) (Err Refusal.NoUnit) (written_by (unit_written w.cells unit offset word))
      (λ fitted c.
      by (leaves_all (write_number (unit_written w.cells unit offset word).0)) (λ refused. subst⁻¹ (Undisturbed p start q w s) (unit_write_refused w.cells unit offset word refused) (nothing_done p start q w s))
      (λ done.
      let (fits, a) = allowed (ap (λ (r : Result Written Refusal × List ℕ). leaves_all (write_call_number r.0)) c ∙ done) in
      written_so p start o q w s unit fitted a (write_leaves w.cells s.ranged unit fitted offset word fits)
      (write_keeps w.cells s.ranged unit fitted offset word fits)))

  pub byte_follows : (byte : ℕ) → Allowed p (message_in p start) (write_byte unit offset byte) w → Follows p start q w quiet (step (write_byte unit offset byte) w)
  byte_follows byte allowed =
      at_unit_lem p start o q w s unit (Err Refusal.BadState) (Err Refusal.NoUnit) (written_by (unit_byte_written w.cells unit offset byte))
      (λ fitted c.
      by (leaves_all (write_number (unit_byte_written w.cells unit offset byte).0)) (λ refused. subst⁻¹ (Undisturbed p start q w s) (unit_byte_refused w.cells unit offset byte refused) (nothing_done p start q w s))
      (λ done.
      let (fits, a) = allowed (ap (λ (r : Result Written Refusal × List ℕ). leaves_all (write_call_number r.0)) c ∙ done) in
      written_so p start o q w s unit fitted a (byte_leaves w.cells s.ranged unit fitted offset byte fits)
      (byte_keeps w.cells s.ranged unit fitted offset byte fits)))
