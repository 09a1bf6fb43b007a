-- Every event goes on with the channels, or begins them anew.
-- Assumes nothing.
use Rattle.std.specs.Prelude.{true, false, List, ◌≡◌, ℕ, eqb, Result}
use Rattle.std.proofs.Common.{true≢false, inl, inr, arith, eqb-true}
use Rattle.std.proofs.lemmas.Bool.{false≢true}
use Rattle.cells.specs.Ranges.{in_range}
use Rattle.laws.specs.Pick.{by}
use Rattle.pcl.specs.Link.{fit_call}
use Rattle.pcl.specs.Numbers.{fit_number}
use Rattle.pcl.specs.Laws.Cases.{fit_cases}
use Rattle.promise.specs.Kinds as K
use Rattle.promise.specs.World.{World, Event, fit, write, write_byte, read, slice, move, period, reset, level, serial, host_write, Handed, step}
use Rattle.channels.specs.History.{fits_again}
use Rattle.channels.proofs.Laws.Begins.{Apart, Begins, fit_begins}
use Rattle.channels.proofs.Laws.Quiet.{byte_quiet, move_quiet, nothing, period_quiet, read_quiet, reset_quiet, write_quiet}
use Rattle.channels.proofs.Laws.SliceEvents.{slice_goes}
use Rattle.channels.proofs.Laws.Steps.{Goes, GoesOn, Steps, quiet_goes}
use Rattle.words.specs.declared.answers.Refusal.{Refusal}

-- where it is no fit that is done, it goes on
pub goes_on : (e : Event) (w : World) → in_range w.cells ≡ true → Apart w.cells → Handed e → fits_again e w ≡ false → GoesOn e w
goes_on (fit setup) w ok apart h other =
    let P : Result (Unit {0}) Refusal × List ℕ → Type 0 = λ outcome. eqb (fit_number outcome.0) 0 ≡ false → Goes (λ address. K.quiet) 0 w.cells outcome.1 in
    let none = quiet_goes (λ address. K.quiet) 0 (nothing w.cells ok) in
    fit_cases w.cells P setup (λ e. none) (λ e. none) (λ enough good e. absurd (true≢false e)) other
goes_on (write unit offset word) w ok apart h other = quiet_goes _ _ (write_quiet w.cells ok unit offset word h)
goes_on (write_byte unit offset byte) w ok apart h other = quiet_goes _ _ (byte_quiet w.cells ok unit offset byte h)
goes_on (read unit offset) w ok apart h other = quiet_goes _ _ (read_quiet w.cells ok unit offset)
goes_on (slice mask parity) w ok apart h other = slice_goes w.cells ok apart mask parity
goes_on (move unit side) w ok apart h other = quiet_goes _ _ (move_quiet w.cells ok unit (w.memory unit) side)
goes_on (period unit) w ok apart h other = quiet_goes _ _ (period_quiet w.cells ok unit)
goes_on (reset unit) w ok apart h other = quiet_goes _ _ (reset_quiet w.cells ok unit)
goes_on (level unit side) w ok apart h other = quiet_goes _ _ (nothing w.cells ok)
goes_on (serial unit side) w ok apart h other = quiet_goes _ _ (nothing w.cells ok)
goes_on (host_write unit place word) w ok apart h other = quiet_goes _ _ (nothing w.cells ok)

-- a fit that is done
pub fit_done : (cells setup : List ℕ) → fit_number (fit_call cells setup).0 ≡ 0 → Begins (fit_call cells setup).1
fit_done cells setup =
    let P : Result (Unit {0}) Refusal × List ℕ → Type 0 = λ outcome. fit_number outcome.0 ≡ 0 → Begins outcome.1 in
    fit_cases cells P setup (λ d. absurd (omega (arith, d))) (λ d. absurd (omega (arith, d))) (λ enough good d. fit_begins cells setup good enough)

pub begins : (e : Event) (w : World) → fits_again e w ≡ true → Begins (step e w).cells
begins (fit setup) w again = fit_done w.cells setup (eqb-true _ 0 again)
begins (write unit offset word) w again = absurd (false≢true again)
begins (write_byte unit offset byte) w again = absurd (false≢true again)
begins (read unit offset) w again = absurd (false≢true again)
begins (slice mask parity) w again = absurd (false≢true again)
begins (move unit side) w again = absurd (false≢true again)
begins (period unit) w again = absurd (false≢true again)
begins (reset unit) w again = absurd (false≢true again)
begins (level unit side) w again = absurd (false≢true again)
begins (serial unit side) w again = absurd (false≢true again)
begins (host_write unit place word) w again = absurd (false≢true again)

pub steps : (e : Event) (w : World) → in_range w.cells ≡ true → Apart w.cells → Handed e → Steps e w
steps e w ok apart h = by (fits_again e w) (λ again. inr (begins e w again)) (λ other. inl (goes_on e w ok apart h other))
