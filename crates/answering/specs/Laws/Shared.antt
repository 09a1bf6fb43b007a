-- The codes shown, which both sides show alike (`ends`, the trait `Side`), at a receiver: it is what the definition of this crate says.
-- Assumes nothing.
use Rattle.std.specs.Prelude.{◌≡◌, refl, ℕ}
use Rattle.ends.specs.Ends as E
use Rattle.receiver.specs.Groups.{with_end}
use Rattle.receiver.specs.Side.{has_error}
use Rattle.receiver.specs.declared.side.Receiver.{Receiver}
use Rattle.words.specs.Codes.{codes_shown}
use Rattle.answering.specs.Events.{showing}

pub shows : (r : Receiver) (a b : ℕ) → with_end r (E.with_shown r.end (codes_shown r.end.shown (has_error r) a b)) ≡ showing r a b
shows r a b = refl
