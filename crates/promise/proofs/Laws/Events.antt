-- Every event that the conditions allow takes the message on as its kind says.
-- Assumes nothing.
use Rattle.std.specs.Prelude.{not, List, ◌≡◌, refl, ℕ, ltb, length, set, Result}
use Rattle.std.proofs.Common.{ap, sym}
use Rattle.promise.specs.Kinds.{kind_of, quiet}
use Rattle.delivery.specs.Laws.Slices.{State}
use Rattle.fitting.specs.SetUp.{count_of, set_up_good}
use Rattle.frames.specs.Laws.Leaves.{stays}
use Rattle.laws.specs.Pick.{either}
use Rattle.outcomes.specs.Unchanged.{leaves_all}
use Rattle.pcl.specs.Link.{fit_call, room_for}
use Rattle.pcl.specs.Numbers.{fit_number}
use Rattle.promise.specs.Conditions.{Allowed, HostWrite}
use Rattle.promise.proofs.Laws.Follows.{Follows, nothing_done, quiet_follows, undisturbed}
use Rattle.promise.proofs.Laws.Memories.{written_elsewhere}
use Rattle.promise.proofs.Laws.MoveEvents.{move_follows}
use Rattle.promise.specs.Opening.{Parties, message_in}
use Rattle.promise.proofs.Laws.Opens.{Opens}
use Rattle.promise.proofs.Laws.SliceEvents.{slice_follows}
use Rattle.promise.proofs.Laws.Standing.{Standing}
use Rattle.promise.proofs.Laws.UnitEvents.{period_follows, read_follows, reset_follows}
use Rattle.promise.specs.World.{World, Event, fit, write, write_byte, read, slice, move, period, reset, level, serial, host_write, step, with_cells, with_memory}
use Rattle.promise.proofs.Laws.WriteEvents.{byte_follows, write_follows}
use Rattle.words.specs.declared.answers.Refusal.{Refusal}

module _ (p : Parties) (start : World) (o : Opens p start) (q : State) (w : World) (s : Standing p start q w) where
  -- a fit is refused
  fit_follows : (setup : List ℕ) → Allowed p (message_in p start) (fit setup) w → Follows p start q w quiet (step (fit setup) w)
  fit_follows setup allowed =
      let By : Result (Unit {0}) Refusal × List ℕ → Type 0 = λ r. fit_call w.cells setup ≡ r → Follows p start q w quiet (with_cells w r.1) in
      let none = undisturbed p start q w s w.cells (nothing_done p start q w s) in
      either By (ltb (length w.cells) (room_for (count_of setup))) (λ e c. none)
      (λ e. either By (not (set_up_good setup)) (λ e c. none)
      (λ e c. absurd (allowed (ap (λ (r : Result (Unit {0}) Refusal × List ℕ). leaves_all (fit_number r.0)) c)))) refl

  host_follows : (unit place word : ℕ) → Allowed p (message_in p start) (host_write unit place word) w
      → Follows p start q w quiet (step (host_write unit place word) w)
  host_follows unit place word allowed =
      let a : HostWrite p (message_in p start) unit place word w = allowed refl in
      let new = set (w.memory unit) place word in
      quiet_follows p start o q w s (stays s.ranged) refl refl (with_memory w.memory unit new)
      (written_elsewhere p start q w s unit new (λ e. a.not_receiving (sym e)) a.sent_kept)

  pub follows : (e : Event) → Allowed p (message_in p start) e w → Follows p start q w (kind_of (message_in p start).from e w) (step e w)
  follows (fit setup) a = fit_follows setup a
  follows (write unit offset word) a = write_follows p start o q w s unit offset word a
  follows (write_byte unit offset byte) a = byte_follows p start o q w s unit offset byte a
  follows (read unit offset) a = read_follows p start o q w s unit offset
  follows (slice mask parity) a = slice_follows p start o q w s mask parity a
  follows (move unit side) a = move_follows p start o q w s unit side a
  follows (period unit) a = period_follows p start o q w s unit a
  follows (reset unit) a = reset_follows p start o q w s unit a
  follows (level unit side) a = undisturbed p start q w s w.cells (nothing_done p start q w s)
  follows (serial unit side) a = undisturbed p start q w s w.cells (nothing_done p start q w s)
  follows (host_write unit place word) a = host_follows unit place word a
