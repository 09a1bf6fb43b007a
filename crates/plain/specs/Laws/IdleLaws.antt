-- Three cells of a transmitter's window say whether it acts and whom it addresses.
-- Assumes nothing.
use Rattle.std.specs.Prelude.{Bool, true, false, not, ◌&&◌, ◌||◌, List, ◌≡◌, refl, ℕ, ◌+◌, ◌<◌, eqb}
use Rattle.std.proofs.Common.{sym, ◌∙◌, lit<}
use Rattle.cells.specs.Fitted.{transmitter_of}
use Rattle.cells.specs.Layout.{transmitter_place}
use Rattle.codec.specs.Ends.{RING, OWN, CONTROL, STATUS}
use Rattle.codec.specs.Transmitters.{dec_transmitter}
use Rattle.codec.specs.Window.{cell, window}
use Rattle.codec.specs.Laws.WindowLaws.{cell_window}
use Rattle.laws.specs.Pick.{pick, by}
use Rattle.sending.specs.Choice.{may_open, wants_on, all_sent, chosen_open, chosen, acts_on, destination_of}
use Rattle.sending.specs.declared.choice.Choice.{Choice}
use Rattle.silos.specs.Silo.{is_empty}
use Rattle.transmitter.specs.Side.{has_error}
use Rattle.transmitter.specs.declared.side.Transmitter.{Transmitter}
use Rattle.plain.specs.Idle.{acts_by, addressed_by}
use Rattle.plain.specs.Laws.Faults.{no_fault, some_held}

-- ---- an open transmitter acts, and a closed one where it may open

picked_acts : (t : Bool) (a b : Choice) → acts_on a ≡ true → acts_on b ≡ true → acts_on (pick t a b) ≡ true
picked_acts true a b p q = p
picked_acts false a b p q = q

open_acts : (t : Transmitter) → acts_on (chosen_open t) ≡ true
open_acts t =
    picked_acts (has_error t) _ _ refl
    (picked_acts t.channel.ending _ _ refl
    (picked_acts (t.channel.awaiting && wants_on t) _ _ refl
    (picked_acts (all_sent t) _ _ refl
    (picked_acts (eqb t.end.block 128 && wants_on t) _ _ refl
    (picked_acts (wants_on t && not (is_empty t.end.silo)) Choice.Word Choice.Null refl refl)))))

acts_is : (t : Transmitter) → acts_on (chosen t) ≡ (t.end.opened || may_open t)
acts_is t =
    by t.end.opened (λ e. rw e (open_acts t)) (λ e. rw e (by (may_open t) (λ m. rw m) (λ m. rw m)))

-- ---- by the cells of a unit

module _ (cells : List ℕ) (unit : ℕ) where
  at : (k : ℕ) → k < 73 → cell (window cells (transmitter_place unit) 73) k ≡ cell cells (transmitter_place unit + k)
  at k h = cell_window cells (transmitter_place unit) 73 k h

  pub acts_in_place : acts_by (cell cells (transmitter_place unit + RING)) (cell cells (transmitter_place unit + CONTROL)) (cell cells (transmitter_place unit + STATUS)) ≡ acts_on (chosen (transmitter_of cells unit))
  acts_in_place =
      rw (← at RING (lit< tt), ← at CONTROL (lit< tt), ← at STATUS (lit< tt))
      (let w = window cells (transmitter_place unit) 73 in
      sym (acts_is (dec_transmitter w) ∙ rw (← some_held (cell w RING), ← no_fault (cell w STATUS)) refl))

  pub addressed_in_place : addressed_by (cell cells (transmitter_place unit + OWN)) (cell cells (transmitter_place unit + CONTROL)) (cell cells (transmitter_place unit + STATUS)) ≡ destination_of (transmitter_of cells unit)
  addressed_in_place = rw (← at OWN (lit< tt), ← at CONTROL (lit< tt), ← at STATUS (lit< tt)) refl
