-- What both sides do at a register (`ends`, the trait `Side`), at a transmitter: it is what the definitions of this crate say.
-- Assumes nothing.
use Rattle.std.specs.Prelude.{◌≡◌, refl, ℕ, Ok, Err}
use Rattle.ends.specs.Ends as E
use Rattle.laws.specs.Pick.{pick, by}
use Rattle.silos.specs.Silo.{is_empty, oldest, taken}
use Rattle.transmitter.specs.Groups.{with_end}
use Rattle.transmitter.specs.Requests.{requested, settled}
use Rattle.transmitter.specs.declared.side.Transmitter.{Transmitter}
use Rattle.words.specs.Load.{count_loaded, low_loaded}
use Rattle.words.specs.declared.answers.Refusal.{Refusal}
use Rattle.transmitter_registers.specs.Reading.{data_read}
use Rattle.transmitter_registers.specs.Writing.{rises, request_raised, count_written, address_written}

-- the byte count, and the bus address
pub counts : (t : Transmitter) (word : ℕ) → with_end t (E.with_load t.end (count_loaded t.end.load word)) ≡ count_written t word
counts t word = refl

pub addresses : (t : Transmitter) (word : ℕ) → with_end t (E.with_load t.end (low_loaded t.end.load word)) ≡ address_written t word
addresses t word = refl

-- a request, where a write makes one
pub requests : (before after : Transmitter) → pick (rises before after) (settled (requested after)) after ≡ request_raised before after
requests before after = refl

-- the data register, from which a read removes with RD SILO set
pub reads : (t : Transmitter)
    → pick (is_empty t.end.silo) (record { side = t; answer = Err Refusal.Nothing })
    (record { side = pick t.modes.read_silo (with_end t (E.with_silo t.end (taken t.end.silo))) t; answer = Ok (oldest t.end.silo) })
    ≡ data_read t
reads t = by t.modes.read_silo (λ e. rw e refl) (λ e. rw e refl)
