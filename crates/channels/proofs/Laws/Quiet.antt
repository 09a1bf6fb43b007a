-- A call other than a slice or a fit, and a slice with no master, opens no side of any unit, and leaves every serial.
-- Assumes nothing.
use Rattle.std.specs.Prelude.{true, ◌&&◌, List, ◌≡◌, ℕ, ◌^◌, ◌<◌, eqb, ltb}
use Rattle.std.proofs.Math.Path.{subst⁻¹}
use Rattle.std.proofs.Common.{eqb-true}
use Rattle.cells.specs.Fitted.{transmitter_of, receiver_of}
use Rattle.cells.specs.Layout.{count_in, memory_length}
use Rattle.cells.specs.Ranges.{in_range}
use Rattle.frames.specs.Laws.Kept.{Kept, kept_all}
use Rattle.frames.specs.Laws.Leaves.{Leaves}
use Rattle.frames.specs.Laws.Masterless.{masterless_on}
use Rattle.frames.specs.Laws.Moves.{transmitter_move, receiver_move}
use Rattle.frames.specs.Laws.Reads.{read_leaves}
use Rattle.frames.specs.Laws.Resets.{initialised_on, reset_leaves, period_leaves}
use Rattle.frames.specs.Laws.Sides.{Sides, replaced, sides_of}
use Rattle.frames.specs.Laws.Writes.{byte_on, written_on, write_leaves, byte_leaves}
use Rattle.laws.specs.Pick.{either}
use Rattle.pcl.specs.Calls.{read_call, write_call, byte_call, reset_call, period_call}
use Rattle.pcl.specs.Sides.{move_call}
use Rattle.pcl.specs.Laws.Cases.{admitted_cases, move_cases}
use Rattle.receiver.specs.Side as R
use Rattle.receiver.specs.declared.side.Receiver.{Receiver}
use Rattle.transmitter.specs.Side as T
use Rattle.transmitter.specs.declared.side.Transmitter.{Transmitter}
use Rattle.transmitter_registers.specs.Writing.{initialises}
use Rattle.channels.proofs.Laws.Still as S
use Rattle.channels.proofs.Laws.Still.{Still, StillThere}

-- of the cells, and of the sides that they hold
pub record Quiet (cells after : List ℕ) : Type 0 where
  pub ranged : in_range after ≡ true
  pub kept : Kept cells after
  pub transmitter : (k : ℕ) → k < count_in cells → Still (transmitter_of cells k) (transmitter_of after k)
  pub receiver : (k : ℕ) → k < count_in cells → StillThere (receiver_of cells k) (receiver_of after k)

pub record QuietOn (s after : Sides) : Type 0 where
  pub sends : (k : ℕ) → Still (s.transmitter k) (after.transmitter k)
  pub receives : (k : ℕ) → StillThere (s.receiver k) (after.receiver k)

pub quiet : {touched : ℕ → Type 0} {cells after : List ℕ} {s : Sides} → Leaves touched cells after s → QuietOn (sides_of cells) s → Quiet cells after
quiet {cells = cells} l still =
    record {
      ranged = l.ranged;
      kept = l.kept;
      transmitter = λ k there. subst⁻¹ (Still (transmitter_of cells k)) (l.holds.transmitter k there) (still.sends k);
      receiver = λ k there. subst⁻¹ (StillThere (receiver_of cells k)) (l.holds.receiver k there) (still.receives k);
    }

-- ---- one side replaced, and none

replaced_so : {A : Type 0} (P : A → A → Type 0) (f : ℕ → A) (unit : ℕ) (a : A) → ((x : A) → P x x) → P (f unit) a → (k : ℕ) → P (f k) (replaced f unit a k)
replaced_so P f unit a same h k = either (P (f k)) (eqb k unit) (λ e. subst⁻¹ (λ (n : ℕ). P (f n) a) (eqb-true k unit e) h) (λ e. same (f k))

module _ (s : Sides) where
  pub senders : (unit : ℕ) (t : Transmitter) → Still (s.transmitter unit) t → (k : ℕ) → Still (s.transmitter k) (replaced s.transmitter unit t k)
  senders unit t h = replaced_so Still s.transmitter unit t S.still_same h

  receivers : (unit : ℕ) (r : Receiver) → StillThere (s.receiver unit) r → (k : ℕ) → StillThere (s.receiver k) (replaced s.receiver unit r k)
  receivers unit r h = replaced_so StillThere s.receiver unit r S.there_same h

  pub none_sends : (k : ℕ) → Still (s.transmitter k) (s.transmitter k)
  none_sends k = S.still_same (s.transmitter k)

  pub none_receives : (k : ℕ) → StillThere (s.receiver k) (s.receiver k)
  none_receives k = S.there_same (s.receiver k)

  -- a slice with no master
  pub quiet_masterless : (unit : ℕ) → QuietOn s (masterless_on s unit)
  quiet_masterless unit =
      either (QuietOn s) (ltb unit 16) (λ e. record { sends = none_sends; receives = none_receives }) (λ e. record { sends = λ k. S.still_missed (s.transmitter k); receives = none_receives })

  -- a word or a byte written
  module _ (unit offset : ℕ) where
    initialised : QuietOn s (initialised_on s unit)
    initialised =
        record { sends = senders unit (T.initialised (s.transmitter unit)) (S.still_initial (s.transmitter unit)); receives = none_receives }

    pub quiet_written : (word : ℕ) → QuietOn s (written_on s unit offset word)
    quiet_written word =
        either (QuietOn s) (eqb offset 0 && initialises word) (λ e. initialised)
        (λ e. either (QuietOn s) (eqb offset 10) (λ e. record { sends = none_sends; receives = none_receives })
        (λ e. either (QuietOn s) (ltb offset 16) (λ e. record { sends = senders unit _ (S.still_written (s.transmitter unit) offset word); receives = none_receives })
        (λ e. record { sends = none_sends; receives = receivers unit _ (S.there_written (s.receiver unit) offset word) })))

    pub quiet_byte : (byte : ℕ) → QuietOn s (byte_on s unit offset byte)
    quiet_byte byte =
        either (QuietOn s) (eqb offset 0 && initialises byte) (λ e. initialised)
        (λ e. either (QuietOn s) (eqb offset 10) (λ e. record { sends = none_sends; receives = none_receives })
        (λ e. either (QuietOn s) (eqb offset 11) (λ e. record { sends = none_sends; receives = none_receives })
        (λ e. either (QuietOn s) (ltb offset 16) (λ e. record { sends = senders unit _ (S.still_byte (s.transmitter unit) offset byte); receives = none_receives })
        (λ e. record { sends = none_sends; receives = receivers unit _ (S.there_byte (s.receiver unit) offset byte) }))))

-- ---- the calls

abbrev After : {A : Type 0} → List ℕ → A × List ℕ → Type 0
After cells outcome = Quiet cells outcome.1

abbrev MoveAfter : {A : Type 0} → List ℕ → A × List ℕ × List ℕ → Type 0
MoveAfter cells outcome = Quiet cells outcome.1

module _ (cells : List ℕ) (ok : in_range cells ≡ true) where
  abbrev s : Sides
  s = sides_of cells

  pub nothing : Quiet cells cells
  nothing =
      record {
        ranged = ok;
        kept = kept_all cells;
        transmitter = λ k there. S.still_same (transmitter_of cells k);
        receiver = λ k there. S.there_same (receiver_of cells k);
      }

  module _ (unit : ℕ) where
    pub read_quiet : (offset : ℕ) → After cells (read_call cells unit offset)
    read_quiet offset =
        admitted_cases cells (After cells) unit _ _ _ nothing nothing
        (λ ok there. quiet (read_leaves cells ok unit there offset)
        (either (QuietOn s) (eqb offset 10) (λ e. record { sends = none_sends s; receives = none_receives s })
        (λ e. either (QuietOn s) (ltb offset 16) (λ e. record { sends = senders s unit _ (S.still_read (transmitter_of cells unit) offset); receives = none_receives s })
        (λ e. record { sends = none_sends s; receives = receivers s unit _ (S.there_read (receiver_of cells unit) offset) }))))

    pub write_quiet : (offset word : ℕ) → word < 2 ^ 16 → After cells (write_call cells unit offset word)
    write_quiet offset word fits =
        admitted_cases cells (After cells) unit _ _ _ nothing nothing
        (λ ok there. quiet (write_leaves cells ok unit there offset word fits) (quiet_written s unit offset word))

    pub byte_quiet : (offset byte : ℕ) → byte < 2 ^ 8 → After cells (byte_call cells unit offset byte)
    byte_quiet offset byte fits =
        admitted_cases cells (After cells) unit _ _ _ nothing nothing
        (λ ok there. quiet (byte_leaves cells ok unit there offset byte fits) (quiet_byte s unit offset byte))

    pub reset_quiet : After cells (reset_call cells unit)
    reset_quiet =
        admitted_cases cells (After cells) unit _ _ _ nothing nothing
        (λ ok there. quiet (reset_leaves cells ok unit there)
        (record {
          sends = senders s unit (T.initialised (transmitter_of cells unit)) (S.still_initial (transmitter_of cells unit));
          receives = receivers s unit (R.initialised (receiver_of cells unit)) (S.there_initial (receiver_of cells unit));
        }))

    pub period_quiet : After cells (period_call cells unit)
    period_quiet =
        admitted_cases cells (After cells) unit _ _ _ nothing nothing
        (λ ok there. quiet (period_leaves cells ok unit there)
        (record { sends = senders s unit _ (S.still_period (transmitter_of cells unit)); receives = receivers s unit _ (S.there_period (receiver_of cells unit)) }))

    pub move_quiet : (memory : List ℕ) (side : ℕ) → MoveAfter cells (move_call cells memory unit side)
    move_quiet memory side =
        move_cases cells (MoveAfter cells) memory unit side nothing nothing
        (λ ok there. quiet (transmitter_move cells ok memory unit there)
        (record { sends = senders s unit _ (S.still_moved (transmitter_of cells unit) memory (memory_length cells unit)); receives = none_receives s }))
        (λ ok there. quiet (receiver_move cells ok memory unit there)
        (record { sends = none_sends s; receives = receivers s unit _ (S.there_moved (receiver_of cells unit) memory (memory_length cells unit)) }))
