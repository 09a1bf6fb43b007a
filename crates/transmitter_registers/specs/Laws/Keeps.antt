-- Reading and writing leave a transmitter within the values its numbers may take.
-- Assumes nothing.
use Rattle.std.specs.Prelude.{true, false, not, ◌&&◌, ℕ, ◌^◌, ◌<◌, eqb, Result}
use Rattle.std.proofs.Common.{arith, lit<, lit≤}
use Rattle.ends.specs.Laws.EndKept.{silo_kept, load_kept, shown_kept}
use Rattle.laws.specs.Bits.{bits}
use Rattle.laws.specs.Pick.{either}
use Rattle.silos.specs.Laws.Laws.{sized_put, sized_taken}
use Rattle.silos.specs.Silo.{Sized, is_empty}
use Rattle.silos.specs.declared.Silo.{Silo}
use Rattle.transmitter.specs.Bits.{commands_in, modes_in, outcome_in}
use Rattle.transmitter.specs.Fields.{with_overrun}
use Rattle.transmitter.specs.Groups.{with_silo, with_load, with_commands, with_modes}
use Rattle.transmitter.specs.Side.{Within, is_busy, has_error, data_in_ready}
use Rattle.transmitter.specs.Laws.BitLaws.{control_lt, status_lt}
use Rattle.transmitter.specs.Laws.Keeps.{marks, within_requested, within_failed}
use Rattle.transmitter.specs.declared.side.Transmitter.{Transmitter}
use Rattle.words.specs.Address.{extension_of}
use Rattle.words.specs.Answers.{read_word}
use Rattle.words.specs.Load.{Bounded}
use Rattle.words.specs.Laws.CodeLaws.{coded_cleared}
use Rattle.words.specs.Halves.{even_below, with_half}
use Rattle.words.specs.Laws.Registers.{half_lt}
use Rattle.words.specs.Laws.LoadLaws.{bounded_count, bounded_low, bounded_extension}
use Rattle.words.specs.Bits.TCR
use Rattle.words.specs.declared.answers.Refusal.{Refusal}
use Rattle.words.specs.declared.load.Load.{Load}
use Rattle.transmitter_registers.specs.Reading.{Reading, data_read, show_of, read_of}
use Rattle.transmitter_registers.specs.Writing.{Written, control_written, status_set, rises, request_raised, data_written, written, byte_written}

abbrev Small : Result ℕ Refusal → Type 0
Small r = read_word r < 2 ^ 16

abbrev ReadKept : Reading → Type 0
ReadKept r = Within r.side

abbrev Kept : Written → Type 0
Kept w = Within w.side

module _ (t : Transmitter) (h : Within t) where
  silo_changed : {x : Silo} → Sized 64 x → Within (with_silo t x)
  silo_changed fits = record { end = silo_kept h.end fits; destination = h.destination; latched = h.latched; ending = h.ending; awaited = h.awaited; marked = h.marked }

  load_changed : {x : Load} → Bounded x → Within (with_load t x)
  load_changed fits = record { end = load_kept h.end fits; destination = h.destination; latched = h.latched; ending = h.ending; awaited = h.awaited; marked = h.marked }

  -- ---- reading

  within_data : Within (data_read t).side
  within_data =
      either ReadKept (is_empty t.end.silo) (λ e. h)
      (λ e. either ReadKept t.modes.read_silo (λ e. silo_changed (sized_taken 64 (lit≤ tt) t.end.silo h.end.silo)) (λ e. h))

  pub within_read : (offset : ℕ) → Within (read_of t offset).side
  within_read offset = either ReadKept (eqb offset 4) (λ e. within_data) (λ e. h)

  -- what a register shows is a word
  pub shown_lt : (offset : ℕ) → read_word (show_of t offset) < 2 ^ 16
  shown_lt offset =
      either Small (eqb offset 0) (λ e. control_lt t h (extension_of t.end.load.address.0) false (not (is_empty t.end.silo)) (omega (arith, h.end.load.eighteen_bits)))
      (λ e. either Small (eqb offset 2) (λ e. status_lt t h (is_busy t) (data_in_ready t) (has_error t))
      (λ e. either Small (eqb offset 6) (λ e. h.end.load.sixteen_bits)
      (λ e. either Small (eqb offset 8) (λ e. omega arith)
      (λ e. either Small (eqb offset 12) (λ e. h.end.crc) (λ e. lit< tt)))))

  -- ---- writing

  module _ (word : ℕ) where
    within_control : Within (control_written t word)
    within_control =
        let end = load_kept h.end (bounded_extension t.end.load h.end.load (bits word TCR.EA16 2) (omega arith)) in
        let after = with_modes (with_commands t (commands_in word)) (modes_in word) in
        record { end = end; destination = omega arith; latched = h.latched; ending = h.ending; awaited = h.awaited; marked = marks after }

    within_set : Within (status_set t word)
    within_set =
        let end = shown_kept h.end (coded_cleared t.end.shown (not t.outcome.success && (outcome_in word).success) h.end.shown) in
        record { end = end; destination = h.destination; latched = h.latched; ending = h.ending; awaited = h.awaited; marked = h.marked }

    within_stored : Within (data_written t word).side
    within_stored =
        either Kept (data_in_ready t) (λ e. silo_changed (sized_put 64 (lit≤ tt) t.end.silo word h.end.silo))
        (λ e. within_failed t h (with_overrun t.faults true))

-- ---- the calls

raised : (before after : Transmitter) → Within after → Within (request_raised before after)
raised before after h = either Within (rises before after) (λ e. within_requested after h) (λ e. h)

pub within_written : (t : Transmitter) → Within t → (offset word : ℕ) → word < 2 ^ 16 → Within (written t offset word).side
within_written t h offset word fits =
    either Kept (eqb offset 0) (λ e. within_control t h word)
    (λ e. either Kept (eqb offset 2) (λ e. raised t (status_set t word) (within_set t h word))
    (λ e. either Kept (eqb offset 4) (λ e. within_stored t h word)
    (λ e. either Kept (eqb offset 6) (λ e. load_changed t h (bounded_count t.end.load h.end.load word fits))
    (λ e. either Kept (eqb offset 8) (λ e. load_changed t h (bounded_low t.end.load h.end.load word fits))
    (λ e. either Kept (eqb offset 12) (λ e. h) (λ e. h))))))

pub within_byte : (t : Transmitter) → Within t → (offset byte : ℕ) → byte < 2 ^ 8 → Within (byte_written t offset byte).side
within_byte t h offset byte fits =
    either Kept (eqb (even_below offset) 4) (λ e. h)
    (λ e. within_written t h (even_below offset) (with_half (read_word (show_of t (even_below offset))) offset byte)
    (half_lt (read_word (show_of t (even_below offset))) offset byte (shown_lt t h (even_below offset)) fits))
