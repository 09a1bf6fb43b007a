-- Where a message stands at its two ends: before its success, and with it.
-- Assumes nothing.
use Rattle.std.specs.Prelude.{true, false, ◌≡◌, ◌+◌, ◌*◌, ◌≤◌, length}
use Rattle.receiver.specs.Side as R
use Rattle.transmitter.specs.Side as T
use Rattle.delivery.specs.Ends.{Ends, Message}
use Rattle.delivery.specs.Written.{written}

-- open at both ends, and neither reports success, rejection or error
pub record Underway (x : Ends) : Type 0 where
  pub opened : x.transmitter.end.opened ≡ true
  pub opened_there : x.receiver.end.opened ≡ true
  pub no_success : x.transmitter.outcome.success ≡ false
  pub no_success_there : x.receiver.outcome.success ≡ false
  pub no_reject : x.transmitter.outcome.software_reject ≡ false
  pub no_reject_there : x.receiver.outcome.reject_complete ≡ false
  pub no_error : T.has_error x.transmitter ≡ false
  pub no_error_there : R.has_error x.receiver ≡ false

-- Demand 3: it succeeds at both ends, and the receiving memory then holds exactly those words and is otherwise unchanged. Success is
-- SUC TXF at both ends, with no SORE and no RECOM, and no error at either. `promise` says what the hosts see of it (`Reports`).
pub record Delivered (m : Message) (x : Ends) : Type 0 where
  pub closed : x.transmitter.end.opened ≡ false
  pub closed_there : x.receiver.end.opened ≡ false
  pub success : x.transmitter.outcome.success ≡ true
  pub success_there : x.receiver.outcome.success ≡ true
  pub no_reject : x.transmitter.outcome.software_reject ≡ false
  pub no_reject_there : x.receiver.outcome.reject_complete ≡ false
  pub no_error : T.has_error x.transmitter ≡ false
  pub no_error_there : R.has_error x.receiver ≡ false
  pub inside : m.target + length m.content ≤ length m.before
  pub memory : x.receiving ≡ written m.before m.target m.content
  -- and R's load stands behind the last of them, at a byte address
  pub place : x.receiver.end.load.address.0 ≡ (m.target + length m.content) * 2
  -- document 02, No. 6: "both ends show the same one at success", the opening's
  pub serial : x.transmitter.end.serial ≡ m.serial
  pub serial_there : x.receiver.end.serial ≡ m.serial
