-- What both sides do at a register (`ends`, the trait `Side`), at a receiver: it is what the definitions of this crate say.
-- Assumes nothing.
use Rattle.std.specs.Prelude.{◌≡◌, refl, ℕ, not, Ok, Err}
use Rattle.ends.specs.Ends as E
use Rattle.laws.specs.Pick.{pick, by}
use Rattle.silos.specs.Silo.{is_empty, oldest, taken}
use Rattle.receiver.specs.Groups.{with_end}
use Rattle.receiver.specs.Requests.{requested, settled}
use Rattle.receiver.specs.declared.side.Receiver.{Receiver}
use Rattle.words.specs.Load.{count_loaded, low_loaded}
use Rattle.words.specs.declared.answers.Refusal.{Refusal}
use Rattle.receiver_registers.specs.Reading.{data_read}
use Rattle.receiver_registers.specs.Writing.{rises, request_raised, count_written, address_written}

-- the byte count, and the bus address
pub counts : (r : Receiver) (word : ℕ) → with_end r (E.with_load r.end (count_loaded r.end.load word)) ≡ count_written r word
counts r word = refl

pub addresses : (r : Receiver) (word : ℕ) → with_end r (E.with_load r.end (low_loaded r.end.load word)) ≡ address_written r word
addresses r word = refl

-- a request, where a write makes one
pub requests : (before after : Receiver) → pick (rises before after) (settled (requested after)) after ≡ request_raised before after
requests before after = refl

-- the data register, from which a read removes with RC NPR clear
pub reads : (r : Receiver)
    → pick (is_empty r.end.silo) (record { side = r; answer = Err Refusal.Nothing })
    (record { side = pick (not r.modes.memory_requests) (with_end r (E.with_silo r.end (taken r.end.silo))) r; answer = Ok (oldest r.end.silo) })
    ≡ data_read r
reads r = by r.modes.memory_requests (λ e. rw e refl) (λ e. rw e refl)
