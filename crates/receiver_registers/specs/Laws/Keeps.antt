-- Reading and writing leave a receiver within the values its numbers may take.
-- Assumes nothing.
use Rattle.std.specs.Prelude.{false, not, ◌&&◌, ◌||◌, ℕ, ◌^◌, ◌<◌, eqb, Result}
use Rattle.std.proofs.Common.{arith, lit<, lit≤}
use Rattle.ends.specs.Laws.EndKept.{silo_kept, load_kept, shown_kept}
use Rattle.laws.specs.Bits.{bits}
use Rattle.laws.specs.Pick.{either}
use Rattle.receiver.specs.Bits.{commands_in, outcome_in}
use Rattle.receiver.specs.Groups.{with_silo, with_load, with_commands, with_modes}
use Rattle.receiver.specs.Requests.{requested, settled}
use Rattle.receiver.specs.Side.{Within, is_busy, has_error, data_in_ready, data_out_ready}
use Rattle.receiver.specs.Laws.BitLaws.{control_lt, status_lt}
use Rattle.receiver.specs.Laws.Keeps.{within_initial, marks, within_requested, within_settled}
use Rattle.receiver.specs.declared.side.Receiver.{Receiver}
use Rattle.silos.specs.Laws.Laws.{sized_taken}
use Rattle.silos.specs.Silo.{Sized, is_empty}
use Rattle.silos.specs.declared.Silo.{Silo}
use Rattle.words.specs.Address.{extension_of}
use Rattle.words.specs.Answers.{read_word}
use Rattle.words.specs.Laws.CodeLaws.{coded_cleared}
use Rattle.words.specs.Halves.{even_below, with_half}
use Rattle.words.specs.Laws.Registers.{half_lt}
use Rattle.words.specs.Load.{Bounded, extension_loaded}
use Rattle.words.specs.Laws.LoadLaws.{bounded_count, bounded_low, bounded_extension}
use Rattle.words.specs.Bits.RCR
use Rattle.words.specs.declared.answers.Refusal.{Refusal}
use Rattle.words.specs.declared.load.Load.{Load}
use Rattle.receiver_registers.specs.Reading.{Reading, data_read, show_of, read_of}
use Rattle.receiver_registers.specs.Writing.{Written, initialises, modes_written, control_written, status_set, rises, request_raised, written, byte_written}

abbrev Small : Result ℕ Refusal → Type 0
Small x = read_word x < 2 ^ 16

abbrev ReadKept : Reading → Type 0
ReadKept x = Within x.side

abbrev Kept : Written → Type 0
Kept w = Within w.side

module _ (r : Receiver) (h : Within r) where
  silo_changed : {x : Silo} → Sized 64 x → Within (with_silo r x)
  silo_changed fits = record { end = silo_kept h.end fits; sender = h.sender; truncated = h.truncated; marked = h.marked }

  load_changed : {x : Load} → Bounded x → Within (with_load r x)
  load_changed fits = record { end = load_kept h.end fits; sender = h.sender; truncated = h.truncated; marked = h.marked }

  -- ---- reading

  within_data : Within (data_read r).side
  within_data =
      either ReadKept (is_empty r.end.silo) (λ e. h)
      (λ e. either ReadKept r.modes.memory_requests (λ e. h) (λ e. silo_changed (sized_taken 64 (lit≤ tt) r.end.silo h.end.silo)))

  pub within_read : (offset : ℕ) → Within (read_of r offset).side
  within_read offset = either ReadKept (eqb offset 20) (λ e. within_data) (λ e. h)

  -- what a register shows is a word
  pub shown_lt : (offset : ℕ) → read_word (show_of r offset) < 2 ^ 16
  shown_lt offset =
      either Small (eqb offset 16) (λ e. control_lt r h (extension_of r.end.load.address.0) false (data_in_ready r) (omega (arith, h.end.load.eighteen_bits)))
      (λ e. either Small (eqb offset 18) (λ e. status_lt r h (is_busy r) (data_out_ready r) (has_error r))
      (λ e. either Small (eqb offset 22) (λ e. h.end.load.sixteen_bits)
      (λ e. either Small (eqb offset 24) (λ e. omega arith)
      (λ e. either Small (eqb offset 26) (λ e. h.end.crc) (λ e. lit< tt)))))

  -- ---- writing

  module _ (word : ℕ) where
    commanded : Within (settled (with_modes (with_commands (with_load r (extension_loaded r.end.load (bits word RCR.EA16 2))) (commands_in word)) (modes_written r.modes word)))
    commanded =
        let end = load_kept h.end (bounded_extension r.end.load h.end.load (bits word RCR.EA16 2) (omega arith)) in
        record { end = end; sender = h.sender; truncated = h.truncated; marked = marks r }

    within_control : Within (control_written r word)
    within_control = either Within (initialises word) (λ e. within_initial h.end.serial) (λ e. commanded)

    within_set : Within (status_set r word)
    within_set =
        let end = shown_kept h.end (coded_cleared r.end.shown (not r.outcome.success && (outcome_in word).success) h.end.shown) in
        record { end = end; sender = h.sender; truncated = h.truncated; marked = h.marked }

-- ---- the calls

raised : (before after : Receiver) → Within after → Within (request_raised before after)
raised before after h = either Within (rises before after) (λ e. within_settled (requested after) (within_requested after h)) (λ e. h)

pub within_written : (r : Receiver) → Within r → (offset word : ℕ) → word < 2 ^ 16 → Within (written r offset word).side
within_written r h offset word fits =
    either Kept (eqb offset 16) (λ e. within_control r h word)
    (λ e. either Kept (eqb offset 18) (λ e. raised r (status_set r word) (within_set r h word))
    (λ e. either Kept (eqb offset 22) (λ e. load_changed r h (bounded_count r.end.load h.end.load word fits))
    (λ e. either Kept (eqb offset 24) (λ e. load_changed r h (bounded_low r.end.load h.end.load word fits))
    (λ e. either Kept (eqb offset 20 || eqb offset 26) (λ e. h) (λ e. h)))))

pub within_byte : (r : Receiver) → Within r → (offset byte : ℕ) → byte < 2 ^ 8 → Within (byte_written r offset byte).side
within_byte r h offset byte fits =
    either Kept (eqb (even_below offset) 20) (λ e. h)
    (λ e. within_written r h (even_below offset) (with_half (read_word (show_of r (even_below offset))) offset byte)
    (half_lt (read_word (show_of r (even_below offset))) offset byte (shown_lt r h (even_below offset)) fits))
