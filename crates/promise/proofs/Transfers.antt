-- A whole transfer in a run of calls. `Event` has none, and needs none: a transfer call leaves what so many moves leave, one after the other.
-- So what is said of every run of calls, here and in `channels`, `layouts`, `turns` and `arrival`, is said of one with transfers too: each is
-- there as its moves. The two calls of who wants service leave everything, and are no events either.
-- Assumes nothing.
use Rattle.std.specs.Prelude.{List, ◌≡◌, refl, ℕ, zero, suc, eqb}
use Rattle.std.proofs.Common.{ap, sym, ◌∙◌, eqb-true, eq-eqb}
use Rattle.std.proofs.Math.Path.{fun_ext}
use Rattle.laws.specs.Pick.{by, past, here}
use Rattle.outcomes.specs.Transfers.{called, after_calls}
use Rattle.outcomes.proofs.Transfers.{transfer_moves}
use Rattle.service.specs.Transfers.{Lent, lent}
use Rattle.promise.specs.World.{World, run}
use Rattle.promise.specs.Transfers.{AsMoves, lent_to, moves_at}

module _ (w : World) (unit : ℕ) where
  nothing_lent : w ≡ lent_to w unit (lent w.cells (w.memory unit))
  nothing_lent =
      ap (λ (m : ℕ → List ℕ). record { cells = w.cells; memory = m })
      (fun_ext (λ k. by (eqb k unit) (λ e. here (w.memory k) e (ap w.memory (eqb-true k unit e))) (λ e. past (w.memory unit) e refl)))

  lent_again : (one two : Lent) → lent_to (lent_to w unit one) unit two ≡ lent_to w unit two
  lent_again one two = ap (λ (m : ℕ → List ℕ). record { cells = two.cells; memory = m }) (fun_ext (λ k. by (eqb k unit) (λ e. rw e) (λ e. rw e)))

  lent_there : (l : Lent) → (lent_to w unit l).memory unit ≡ l.memory
  lent_there l = rw (eq-eqb unit unit refl)

run_moves : (n : ℕ) (w : World) (unit side : ℕ) → run (moves_at n unit side) w ≡ lent_to w unit (after_calls unit side n (lent w.cells (w.memory unit)))
unfolding moves_at after_calls
run_moves zero w unit side = nothing_lent w unit
run_moves (suc n) w unit side =
    let next = (called unit side (lent w.cells (w.memory unit))).1 in
    run_moves n (lent_to w unit next) unit side
    ∙ ap (λ (m : List ℕ). lent_to (lent_to w unit next) unit (after_calls unit side n (lent next.cells m))) (lent_there w unit next)
    ∙ lent_again w unit next (after_calls unit side n next)

pub transfer_as_moves : (w : World) (unit side : ℕ) → AsMoves w unit side
transfer_as_moves w unit side =
    let m = transfer_moves w.cells (w.memory unit) unit side in
    record { moves = m.moves; same = run_moves m.moves w unit side ∙ ap (lent_to w unit) (sym m.same) }
