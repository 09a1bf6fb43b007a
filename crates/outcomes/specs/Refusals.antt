-- "it is said what a refusal leaves in the state and the memories": with a number whose row says "unchanged", a call leaves every cell, and
-- every word of the memory, as it was. (A level changes nothing: it is lent the cells to read alone.)
-- Assumes nothing.
use Rattle.std.proofs.lemmas.Bool.{false≢true}
use Rattle.std.specs.Prelude.{List, refl, ℕ, eqb}
use Rattle.bus.specs.Slice.{slice_passed}
use Rattle.pcl.specs.Calls.{read_call, write_call, byte_call, reset_call, period_call}
use Rattle.pcl.specs.Link.{fit_call, slice_call}
use Rattle.pcl.specs.Numbers.{read_call_number, write_call_number, done_number, fit_number, slice_number, move_call_number}
use Rattle.pcl.specs.Sides.{move_call}
use Rattle.pcl.specs.Laws.Cases.{admitted_cases, fit_cases, slice_cases, move_cases}
use Rattle.outcomes.specs.Unchanged.{Unchanged, BothUnchanged}
use Rattle.outcomes.specs.Laws.RefusedUnits.{passes, unit_read_refused, unit_write_refused, unit_byte_refused, sent_refused, received_refused}

-- nothing is asked of the lent state
module _ (cells : List ℕ) where
  pub read_refused : (unit offset : ℕ) → Unchanged read_call_number cells (read_call cells unit offset)
  read_refused unit offset =
      admitted_cases cells (Unchanged read_call_number cells) unit _ _ _ (λ h. refl) (λ h. refl) (λ ok there. unit_read_refused cells unit offset)

  pub write_refused : (unit offset word : ℕ) → Unchanged write_call_number cells (write_call cells unit offset word)
  write_refused unit offset word =
      admitted_cases cells (Unchanged write_call_number cells) unit _ _ _ (λ h. refl) (λ h. refl) (λ ok there. unit_write_refused cells unit offset word)

  pub byte_refused : (unit offset byte : ℕ) → Unchanged write_call_number cells (byte_call cells unit offset byte)
  byte_refused unit offset byte =
      admitted_cases cells (Unchanged write_call_number cells) unit _ _ _ (λ h. refl) (λ h. refl) (λ ok there. unit_byte_refused cells unit offset byte)

  pub reset_refused : (unit : ℕ) → Unchanged done_number cells (reset_call cells unit)
  reset_refused unit =
      admitted_cases cells (Unchanged done_number cells) unit _ _ _ (λ h. refl) (λ h. refl) (λ ok there h. absurd (false≢true h))

  pub period_refused : (unit : ℕ) → Unchanged done_number cells (period_call cells unit)
  period_refused unit =
      admitted_cases cells (Unchanged done_number cells) unit _ _ _ (λ h. refl) (λ h. refl) (λ ok there h. absurd (false≢true h))

  pub fit_refused : (setup : List ℕ) → Unchanged fit_number cells (fit_call cells setup)
  fit_refused setup = fit_cases cells (Unchanged fit_number cells) setup (λ h. refl) (λ h. refl) (λ enough good h. absurd (false≢true h))

  pub slice_refused : (mask parity : ℕ) → Unchanged slice_number cells (slice_call cells mask parity)
  slice_refused mask parity =
      slice_cases cells (Unchanged slice_number cells) mask parity (λ h. refl) (λ h. refl)
      (λ ok h. absurd (false≢true (rw (passes (slice_passed cells mask (eqb parity 1)).0) at h)))

  pub move_refused : (memory : List ℕ) (unit side : ℕ) → BothUnchanged move_call_number cells memory (move_call cells memory unit side)
  move_refused memory unit side =
      move_cases cells (BothUnchanged move_call_number cells memory) memory unit side (λ h. (refl, refl)) (λ h. (refl, refl))
      (λ ok there. sent_refused cells unit memory) (λ ok there. received_refused cells unit memory)
