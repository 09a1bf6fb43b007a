-- Every rule of this crate leaves a transmitter within the values its numbers may take; and where no period passes, as it was.
-- Assumes nothing.
use Rattle.std.specs.Prelude.{Bool, true, false, not, ◌&&◌, List, ◌≡◌, ℕ, ◌^◌, ◌<◌, get_or, Result, Ok, Err}
use Rattle.std.proofs.Common.{true≢false, sym, ap, ◌∙◌, lit<, lit≤}
use Rattle.std.proofs.lemmas.Bool.{false≢true}
use Rattle.ends.specs.Ends as E
use Rattle.ends.specs.Laws.EndKept.{within_none, silo_kept, load_kept}
use Rattle.laws.specs.Laws.Both.{right_of}
use Rattle.laws.specs.Pick.{by, past, either}
use Rattle.silos.specs.Laws.Laws.{sized_put}
use Rattle.words.specs.Address.{place_of}
use Rattle.words.specs.Load.{word_moved}
use Rattle.words.specs.Laws.LoadLaws.{bounded_moved}
use Rattle.transmitter.specs.Down.{misses_master, master_missed}
use Rattle.transmitter.specs.Fields.{with_time_out, with_master_down, with_memory_overflow}
use Rattle.transmitter.specs.Groups.{with_faults, with_mark}
use Rattle.transmitter.specs.Moves.{Moved, may_move, gone, word_loaded, moved_from, moved}
use Rattle.transmitter.specs.Periods.{period_passed}
use Rattle.transmitter.specs.Requests.{requested, settled, failed}
use Rattle.transmitter.specs.Side.{Within, initial, is_busy}
use Rattle.transmitter.specs.declared.side.Faults.{Faults}
use Rattle.transmitter.specs.declared.side.Transmitter.{Transmitter}

pub within_initial : {serial : ℕ} → serial < 2 ^ 16 → Within (initial serial)
within_initial fits = record { end = within_none fits; destination = lit< tt; latched = lit< tt; ending = λ e. absurd (false≢true e); awaited = λ e. absurd (false≢true e); marked = λ e. absurd (false≢true e) }

-- a mark that is settled stands only at a BUSY transmitter
pub marks : (t : Transmitter) → (settled t).end.mark ≡ true → is_busy t ≡ true
marks t e = right_of t.end.mark (is_busy t) e

-- so that the numbers are all there is to show of one
pub settles : (t : Transmitter) → E.Within t.end → t.modes.destination < 32 → t.channel.destination < 32
    → (t.channel.ending ≡ true → t.end.opened ≡ true) → (t.channel.awaiting ≡ true → t.end.block ≡ 128) → Within (settled t)
settles t end destination latched ending awaited =
    record { end = end; destination = destination; latched = latched; ending = ending; awaited = awaited; marked = marks t }

module _ (t : Transmitter) (h : Within t) where
  pub within_requested : Within (settled (requested t))
  within_requested = settles (requested t) h.end h.destination h.latched h.ending h.awaited

  pub within_settled : Within (settled t)
  within_settled = settles t h.end h.destination h.latched h.ending h.awaited

  pub within_failed : (f : Faults) → Within (failed t f)
  within_failed f = settles (requested (with_faults t f)) h.end h.destination h.latched h.ending h.awaited

pub within_period : (t : Transmitter) → Within t → Within (period_passed t)
within_period t h =
    either Within (t.end.mark && is_busy t) (λ e. within_failed t h (with_time_out t.faults true))
    (λ e. settles (with_mark t true) h.end h.destination h.latched h.ending h.awaited)

-- at one that is not BUSY nothing passes
pub period_stays : (t : Transmitter) → Within t → is_busy t ≡ false → period_passed t ≡ t
period_stays t h idle =
    let unmarked : t.end.mark ≡ false = by t.end.mark (λ e. absurd (true≢false (sym (h.marked e) ∙ idle))) (λ e. e) in
    sym (past _ (ap (λ (b : Bool). b && is_busy t) unmarked) (ap (with_mark t) (unmarked ∙ sym idle)))

pub within_missed : (t : Transmitter) → Within t → Within (master_missed t)
within_missed t h = either Within (misses_master t) (λ e. within_failed t h (with_master_down t.faults true)) (λ e. h)

module _ (t : Transmitter) (h : Within t) where
  went : (word : ℕ) → Within (gone t word (word_moved t.end.load t.modes.inhibit_increment))
  went word =
      let stored = silo_kept h.end (sized_put 64 (lit≤ tt) t.end.silo word h.end.silo) in
      let end = load_kept stored (bounded_moved t.end.load h.end.load t.modes.inhibit_increment) in
      record { end = end; destination = h.destination; latched = h.latched; ending = h.ending; awaited = h.awaited; marked = h.marked }

  within_loaded : (word : ℕ) → Within (word_loaded t word)
  within_loaded word =
      let a = word_moved t.end.load t.modes.inhibit_increment in
      either Within a.overflow (λ e. within_failed (gone t word a) (went word) (with_memory_overflow (gone t word a).faults true)) (λ e. went word)

  within_from : (memory : List ℕ) (p : Result ℕ ℕ) → Within (moved_from t memory p).side
  within_from memory (Ok at) = within_loaded (get_or memory at 0)
  within_from memory (Err address) = within_failed t h _

  pub within_moved : (memory : List ℕ) (fitted : ℕ) → Within (moved t memory fitted).side
  within_moved memory fitted =
      either (λ (m : Moved). Within m.side) (not (may_move t)) (λ e. h) (λ e. within_from memory (place_of t.end.load.address.0 fitted))
