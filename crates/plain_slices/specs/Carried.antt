-- What a plain slice has done, in the words of the slice's own definitions.
-- Assumes nothing.
use Rattle.std.specs.Prelude.{false, List, ◌⊎◌, ◌≡◌, ℕ, ◌+◌, ◌≤◌, length, Option, Some, None}
use Rattle.answering.specs.Choice.{open_with_another}
use Rattle.codec.specs.Receivers.{enc_receiver, receiver_at}
use Rattle.codec.specs.Transmitters.{enc_transmitter, transmitter_at}
use Rattle.codec.specs.Window.{window, splice}
use Rattle.receiver.specs.declared.side.Receiver.{Receiver}
use Rattle.slices.specs.Slice.{exchanged}
use Rattle.slices.specs.declared.Pair.{Pair}
use Rattle.transmitter.specs.declared.side.Transmitter.{Transmitter}

-- two windows of 73 cells, apart
pub record Placed (cells : List ℕ) (t r : ℕ) : Type 0 where
  pub sender : t + 73 ≤ length cells
  pub receiver : r + 73 ≤ length cells
  pub apart : (t + 73 ≤ r) ⊎ (r + 73 ≤ t)

-- both sides put back, one after the other, each in the place of the window that stands there
abbrev pub sender_put : List ℕ → ℕ → Transmitter → List ℕ
sender_put cells t sender = splice cells t (enc_transmitter (window cells t 73) sender)

abbrev pub receiver_put : List ℕ → ℕ → Receiver → List ℕ
receiver_put cells r receiver = splice cells r (enc_receiver (window cells r 73) receiver)

abbrev pub put_both : List ℕ → ℕ → ℕ → Transmitter → Receiver → List ℕ
put_both cells t r sender receiver = receiver_put (sender_put cells t sender) r receiver

-- the undamaged slice between the sides at two places
abbrev pub between : List ℕ → ℕ → ℕ → ℕ → Pair
between cells t r from = exchanged (transmitter_at cells t) (receiver_at cells r) from 0 false

-- the receiver was not open with another, A was 10 and B that code, and both sides are put back
pub record Carried (cells : List ℕ) (t r from b : ℕ) (after : List ℕ) : Type 0 where
  pub own : open_with_another (receiver_at cells r) from ≡ false
  pub codes : (between cells t r from).codes ≡ record { a = 2; b = b }
  pub sides : after ≡ put_both cells t r (between cells t r from).transmitter (between cells t r from).receiver

-- a slice that was tried: with None, which is always allowed, nothing was done; else there is its code B
abbrev pub Tried : List ℕ → ℕ → ℕ → ℕ → Option ℕ → List ℕ → Type 0
Tried cells t r from None after = after ≡ cells
Tried cells t r from (Some b) after = Carried cells t r from b after
