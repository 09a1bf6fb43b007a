-- The codes shown, which both sides show alike (`ends`, the trait `Side`), at a transmitter: it is what the definition of this crate says.
-- Assumes nothing.
use Rattle.std.specs.Prelude.{◌≡◌, refl, ℕ}
use Rattle.ends.specs.Ends as E
use Rattle.transmitter.specs.Groups.{with_end}
use Rattle.transmitter.specs.Side.{has_error}
use Rattle.transmitter.specs.declared.side.Transmitter.{Transmitter}
use Rattle.words.specs.Codes.{codes_shown}
use Rattle.sending.specs.Hearing.{showing}

pub shows : (t : Transmitter) (a b : ℕ) → with_end t (E.with_shown t.end (codes_shown t.end.shown (has_error t) a b)) ≡ showing t a b
shows t a b = refl
