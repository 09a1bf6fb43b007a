-- Every event on two worlds that are the same but for the layout: the same answer, and worlds that are the same again.
-- Assumes nothing.
use Rattle.std.specs.Prelude.{List, ◌≡◌, refl, ℕ, eqb, set}
use Rattle.std.proofs.Common.{ap}
use Rattle.std.proofs.Math.Path.{subst⁻¹}
use Rattle.frames.specs.Laws.Leaves.{alike}
use Rattle.pcl.specs.Sides.{move_call}
use Rattle.promise.specs.World.{World, Event, fit, write, write_byte, read, slice, move, period, reset, level, serial, host_write, Handed, with_memory}
use Rattle.layouts.specs.Answers.{to_fit, to_write, to_read, to_slice, to_move, to_unit, to_level, to_serial}
use Rattle.layouts.specs.Same.{SameWorld}
use Rattle.layouts.specs.Statement.{Alike}
use Rattle.layouts.specs.Laws.Fits.{fit_alike}
use Rattle.layouts.specs.Laws.Moves.{AlikeMoves, move_alike, level_alike, serial_alike}
use Rattle.layouts.specs.Laws.Slices.{slice_alike}
use Rattle.layouts.specs.Laws.Units.{read_alike, write_alike, byte_alike, reset_alike, period_alike}

-- one unit's memory replaced by the same
memory_alike : (one two : ℕ → List ℕ) → ((k : ℕ) → two k ≡ one k) → (unit : ℕ) {a b : List ℕ} → b ≡ a
    → (k : ℕ) → with_memory two unit b k ≡ with_memory one unit a k
memory_alike one two same unit e k = alike (λ (x y : List ℕ). x ≡ y) (eqb k unit) (λ here. e) (λ other. same k)

module _ {w v : World} (h : SameWorld w v) where
  pub event_alike : (e : Event) → Handed e → Alike e w v
  event_alike (fit setup) handed =
      let a = fit_alike h.cells setup in record { answer = ap to_fit a.answer; after = record { cells = a.cells; memory = h.memory } }
  event_alike (write unit offset word) handed =
      let a = write_alike h.cells unit offset word handed in
      record { answer = ap to_write a.answer; after = record { cells = a.cells; memory = h.memory } }
  event_alike (write_byte unit offset byte) handed =
      let a = byte_alike h.cells unit offset byte handed in
      record { answer = ap to_write a.answer; after = record { cells = a.cells; memory = h.memory } }
  event_alike (read unit offset) handed =
      let a = read_alike h.cells unit offset in
      record { answer = ap to_read a.answer; after = record { cells = a.cells; memory = h.memory } }
  event_alike (slice mask parity) handed =
      let a = slice_alike h.cells mask parity in
      record { answer = ap to_slice a.answer; after = record { cells = a.cells; memory = h.memory } }
  event_alike (move unit side) handed =
      let a : AlikeMoves (move_call w.cells (w.memory unit) unit side) (move_call v.cells (v.memory unit) unit side) =
      subst⁻¹ (λ (l : List ℕ). AlikeMoves (move_call w.cells (w.memory unit) unit side) (move_call v.cells l unit side)) (h.memory unit)
      (move_alike h.cells unit (w.memory unit) side) in
      record { answer = ap to_move a.answer; after = record { cells = a.cells; memory = memory_alike w.memory v.memory h.memory unit a.memory } }
  event_alike (period unit) handed =
      let a = period_alike h.cells unit in
      record { answer = ap to_unit a.answer; after = record { cells = a.cells; memory = h.memory } }
  event_alike (reset unit) handed =
      let a = reset_alike h.cells unit in
      record { answer = ap to_unit a.answer; after = record { cells = a.cells; memory = h.memory } }
  event_alike (level unit side) handed = record { answer = ap to_level (level_alike h.cells unit side); after = h }
  event_alike (serial unit side) handed = record { answer = ap to_serial (serial_alike h.cells unit side); after = h }
  event_alike (host_write unit place word) handed =
      record {
        answer = refl;
        after =
            record {
              cells = h.cells;
              memory = memory_alike w.memory v.memory h.memory unit (ap (λ (l : List ℕ). set l place word) (h.memory unit));
            };
      }
