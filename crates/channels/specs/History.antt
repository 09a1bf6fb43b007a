-- What a run of calls did to the channels: in which event each transmitter and each receiver last opened, and how often each transmitter did
-- since the last fit.
-- Assumes nothing.
use Rattle.std.specs.Prelude.{Bool, false, not, ◌&&◌, List, [], ◌∷◌, ℕ, ◌+◌, eqb}
use Rattle.cells.specs.Fitted.{transmitter_of, receiver_of}
use Rattle.laws.specs.Pick.{pick}
use Rattle.promise.specs.World.{World, Event, fit, write, write_byte, read, slice, move, period, reset, level, serial, host_write, number_of, step}

-- the world as it stands, the number of the events that led to it, and, of each unit by its number, the number of the event in which its
-- transmitter, and its receiver, last opened, and how many openings of its transmitter there were since the last fit. Events are numbered
-- from 1 on; 0 is no event.
pub record Past : Type 0 where
  pub world : World
  pub events : ℕ
  pub sender : ℕ → ℕ
  pub receiver : ℕ → ℕ
  pub openings : ℕ → ℕ

-- nothing has happened yet
abbrev pub fresh : World → Past
fresh w = record { world = w; events = 0; sender = λ k. 0; receiver = λ k. 0; openings = λ k. 0 }

-- CHN OPN of each unit's transmitter, and of its receiver
abbrev pub sender_open : World → ℕ → Bool
sender_open w unit = (transmitter_of w.cells unit).end.opened

abbrev pub receiver_open : World → ℕ → Bool
receiver_open w unit = (receiver_of w.cells unit).end.opened

-- a side that was closed before the event and is open after it opened in it; of any other the last opening is the one it was
abbrev pub opens_now : Bool → Bool → Bool
opens_now before after = not before && after

abbrev pub last_opened : Bool → Bool → ℕ → ℕ → ℕ
last_opened before after event last = pick (opens_now before after) event last

-- whether an event is a fit that is done
abbrev pub fits_again : Event → World → Bool
fits_again (fit setup) w = eqb (number_of (fit setup) w) 0
fits_again (write unit offset word) w = false
fits_again (write_byte unit offset byte) w = false
fits_again (read unit offset) w = false
fits_again (slice mask parity) w = false
fits_again (move unit side) w = false
fits_again (period unit) w = false
fits_again (reset unit) w = false
fits_again (level unit side) w = false
fits_again (serial unit side) w = false
fits_again (host_write unit place word) w = false

-- one event more
abbrev pub next : Event → Past → Past
next e p =
    record {
      world = step e p.world;
      events = p.events + 1;
      sender = λ k. last_opened (sender_open p.world k) (sender_open (step e p.world) k) (p.events + 1) (p.sender k);
      receiver = λ k. last_opened (receiver_open p.world k) (receiver_open (step e p.world) k) (p.events + 1) (p.receiver k);
      openings = λ k.
          pick (fits_again e p.world) 0
          (pick (opens_now (sender_open p.world k) (sender_open (step e p.world) k)) (p.openings k + 1) (p.openings k));
    }

abbrev pub past : List Event → Past → Past
past [] p = p
past (e ∷ es) p = past es (next e p)

-- the serial of each unit's transmitter, and of its receiver (document 02, No. 6)
abbrev pub sender_serial : World → ℕ → ℕ
sender_serial w unit = (transmitter_of w.cells unit).end.serial

abbrev pub receiver_serial : World → ℕ → ℕ
receiver_serial w unit = (receiver_of w.cells unit).end.serial
