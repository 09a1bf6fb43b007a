-- R while a message goes well, and after each kind of slice: it listens on.
-- Assumes nothing.
use Rattle.std.specs.Prelude.{true, false, ◌≡◌, refl, ℕ}
use Rattle.ends.specs.Ends as E
use Rattle.receiver.specs.Requests.{requested}
use Rattle.receiver.specs.Fields.{with_success, with_bad_parity}
use Rattle.receiver.specs.Groups.{with_end, with_shown, with_outcome, with_channel}
use Rattle.receiver.specs.Side.{has_error}
use Rattle.receiver.specs.declared.side.Receiver.{Receiver}
use Rattle.silos.specs.Silo.{has_room, put}
use Rattle.words.specs.Codes.{no_codes}
use Rattle.words.specs.declared.codes.Codes.{Codes}
use Rattle.answering.specs.Events.{closed, verdict, opening, restarted}

-- open with the transmitter `from`, and nothing stands against a word more
pub record Listening (r : Receiver) (from : ℕ) : Type 0 where
  pub opened : r.end.opened ≡ true
  pub sender : r.modes.sender ≡ from
  pub no_error : has_error r ≡ false
  pub parity : r.channel.bad_parity ≡ false
  pub accepting : r.modes.reject ≡ false
  pub receiving : r.commands.receive_data ≡ true

-- ---- R after each kind of slice

abbrev codes : ℕ → ℕ → Codes
codes a b = record { a = a; b = b }

-- a word is stored
abbrev pub after_word : Receiver → ℕ → Receiver
after_word r word =
    with_shown
    (with_channel (with_end r (E.counted (E.with_silo r.end (put 64 r.end.silo word)) word)) (with_bad_parity r.channel false))
    (codes 2 3)

-- its own CRC is taken, with the code A
abbrev pub after_crc : Receiver → ℕ → Receiver
after_crc r a = with_shown (with_channel r (verdict r.channel true)) (codes a 1)

-- the due CRC is found good
abbrev pub after_due : Receiver → Receiver
after_due r = with_shown (restarted r) (codes 2 3)

-- the last CRC is found good
abbrev pub after_last : Receiver → Receiver
after_last r = closed (requested (with_shown (with_outcome r (with_success r.outcome true)) no_codes))

-- ---- and it listens on

module _ (r : Receiver) (from : ℕ) (l : Listening r from) where
  pub listening_word : (word : ℕ) → Listening (after_word r word) from
  listening_word word =
      record {
        opened = l.opened;
        sender = l.sender;
        no_error = l.no_error;
        parity = refl;
        accepting = l.accepting;
        receiving = l.receiving;
      }

  pub listening_crc : (a : ℕ) → Listening (after_crc r a) from
  listening_crc a =
      record {
        opened = l.opened;
        sender = l.sender;
        no_error = l.no_error;
        parity = l.parity;
        accepting = l.accepting;
        receiving = l.receiving;
      }

  pub listening_due : Listening (after_due r) from
  listening_due =
      record {
        opened = l.opened;
        sender = l.sender;
        no_error = l.no_error;
        parity = l.parity;
        accepting = l.accepting;
        receiving = l.receiving;
      }

-- ---- the opening

-- closed, and set up to take a whole message
pub record Ready (r : Receiver) : Type 0 where
  pub closed : r.end.opened ≡ false
  pub no_error : has_error r ≡ false
  pub accepting : r.modes.reject ≡ false
  pub receiving : r.commands.receive_data ≡ true
  pub awaiting : r.commands.receive_word ≡ true
  pub room : has_room 64 r.end.silo ≡ true

module _ (r : Receiver) (from : ℕ) (ready : Ready r) where
  pub listening_opening : (serial word : ℕ) → Listening (after_word (opening r from serial) word) from
  listening_opening serial word =
      record {
        opened = refl;
        sender = refl;
        no_error = ready.no_error;
        parity = refl;
        accepting = ready.accepting;
        receiving = ready.receiving;
      }
