-- Every rule of this crate leaves a receiver within the values its numbers may take; and where no period passes, as it was.
-- Assumes nothing.
use Rattle.std.specs.Prelude.{Bool, true, false, not, ◌&&◌, List, ◌≡◌, ℕ, ◌^◌, ◌<◌, Result, Ok, Err}
use Rattle.std.proofs.Common.{true≢false, sym, ap, ◌∙◌, lit<, lit≤}
use Rattle.std.proofs.lemmas.Bool.{false≢true}
use Rattle.ends.specs.Laws.EndKept.{within_none, silo_kept, load_kept}
use Rattle.laws.specs.Laws.Both.{right_of}
use Rattle.laws.specs.Pick.{by, past, either}
use Rattle.silos.specs.Laws.Laws.{sized_taken}
use Rattle.words.specs.Address.{place_of}
use Rattle.words.specs.Load.{word_moved}
use Rattle.words.specs.Laws.LoadLaws.{bounded_moved}
use Rattle.receiver.specs.Fields.{with_byte_count_overflow, with_time_out, with_memory_overflow}
use Rattle.receiver.specs.Groups.{with_faults, with_mark}
use Rattle.receiver.specs.Moves.{Moved, may_move, gone, word_passed, moved_to, moved}
use Rattle.receiver.specs.Periods.{period_passed}
use Rattle.receiver.specs.Requests.{requested, settled, failed}
use Rattle.receiver.specs.Side.{Within, initial}
use Rattle.receiver.specs.declared.side.Faults.{Faults}
use Rattle.receiver.specs.declared.side.Receiver.{Receiver}

pub within_initial : {serial : ℕ} → serial < 2 ^ 16 → Within (initial serial)
within_initial fits = record { end = within_none fits; sender = lit< tt; truncated = λ e. absurd (false≢true e); marked = λ e. absurd (false≢true e) }

-- a mark that is settled stands only at an open receiver
pub marks : (r : Receiver) → (settled r).end.mark ≡ true → r.end.opened ≡ true
marks r e = right_of r.end.mark r.end.opened e

module _ (r : Receiver) (h : Within r) where
  pub within_requested : Within (requested r)
  within_requested = record { end = h.end; sender = h.sender; truncated = h.truncated; marked = h.marked }

  pub within_settled : Within (settled r)
  within_settled = record { end = h.end; sender = h.sender; truncated = h.truncated; marked = marks r }

  pub within_failed : (f : Faults) → Within (failed r f)
  within_failed f = record { end = h.end; sender = h.sender; truncated = h.truncated; marked = marks (requested (with_faults r f)) }

-- at one that is not open nothing passes
pub period_stays : (r : Receiver) → Within r → r.end.opened ≡ false → period_passed r ≡ r
period_stays r h shut =
    let unmarked : r.end.mark ≡ false = by r.end.mark (λ e. absurd (true≢false (sym (h.marked e) ∙ shut))) (λ e. e) in
    sym (past _ (ap (λ (b : Bool). b && r.end.opened) unmarked) (ap (with_mark r) (unmarked ∙ sym shut)))

pub within_period : (r : Receiver) → Within r → Within (period_passed r)
within_period r h =
    either Within (r.end.mark && r.end.opened) (λ e. within_failed r h (with_time_out r.faults true))
    (λ e. record { end = h.end; sender = h.sender; truncated = h.truncated; marked = marks (with_mark r true) })

module _ (r : Receiver) (h : Within r) where
  went : Within (gone r (word_moved r.end.load r.modes.inhibit_increment))
  went =
      let taken = silo_kept h.end (sized_taken 64 (lit≤ tt) r.end.silo h.end.silo) in
      let end = load_kept taken (bounded_moved r.end.load h.end.load r.modes.inhibit_increment) in
      record { end = end; sender = h.sender; truncated = h.truncated; marked = h.marked }

  within_passed : Within (word_passed r)
  within_passed =
      let a = word_moved r.end.load r.modes.inhibit_increment in
      either Within a.overflow (λ e. within_failed (gone r a) went (with_memory_overflow (gone r a).faults true)) (λ e. went)

  within_to : (memory : List ℕ) (p : Result ℕ ℕ) → Within (moved_to r memory p).0.side
  within_to memory (Ok at) = within_passed
  within_to memory (Err address) = within_failed r h _

  pub within_moved : (memory : List ℕ) (fitted : ℕ) → Within (moved r memory fitted).0.side
  within_moved memory fitted =
      either (λ (m : Moved × List ℕ). Within m.0.side) (not (may_move r)) (λ e. h)
      (λ e. either (λ (m : Moved × List ℕ). Within m.0.side) (not r.end.load.loaded) (λ e. within_failed r h (with_byte_count_overflow r.faults true))
      (λ e. within_to memory (place_of r.end.load.address.0 fitted)))
