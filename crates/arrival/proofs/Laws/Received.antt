-- What receiving gives at a unit, with the serial of its receiver: "message not complete" where RSR does not show success, and where it
-- does what the words tell.
-- Assumes nothing.
use Rattle.std.specs.Prelude.{Bool, true, false, List, map, ◌≡◌, refl, ℕ, ◌≤◌, length, take, Result, Ok, Err}
use Rattle.std.proofs.Common.{ap, sym, ◌∙◌, le-ltb}
use Rattle.board.specs.Receive.{complete_in, receive_call, received_as, received_into, words_between}
use Rattle.board.specs.declared.answers.ReceiveError.{ReceiveError}
use Rattle.board.specs.Laws.ReceiveLaws.{message_received}
use Rattle.cells.specs.Fitted.{receiver_of}
use Rattle.laws.specs.Pick.{past}
use Rattle.readings.specs.Build.{build_call}
use Rattle.readings.proofs.Inverse.{build_then_read}
use Rattle.readings.specs.Messages.{lent, over}
use Rattle.readings.specs.Read.{read_of}
use Rattle.readings.specs.Readings.{number_of}
use Rattle.readings.specs.declared.answers.BuildError.{BuildError}
use Rattle.readings.specs.declared.answers.ReadError.{ReadError}
use Rattle.arrival.proofs.Laws.Reads.{Ready, shown, standing_is}

module _ (cells memory : List ℕ) (unit first : ℕ) (is : Ready cells unit) (room : List ℕ) (enough : 64 ≤ length room) where
  abbrev words : List ℕ
  words = words_between memory first (receiver_of cells unit).end.load.address.0

  abbrev serial : ℕ
  serial = (receiver_of cells unit).end.serial

  received : (complete : Bool) → complete_in (shown cells unit 18) ≡ complete
      → receive_call 1 cells memory unit first room ≡ received_into cells words room serial (read_of 1 complete words)
  received complete e =
      sym
      (past _ (le-ltb _ _ enough)
      (sym
      (ap (received_as 1 memory first room) (standing_is cells unit is)
      ∙ ap (λ (c : Bool). received_into cells words room serial (read_of 1 c words)) e)))

  pub not_complete : complete_in (shown cells unit 18) ≡ false
      → receive_call 1 cells memory unit first room ≡ (Err (ReceiveError.Message ReadError.NotComplete serial), cells, room)
  not_complete e = received false e

  pub given : complete_in (shown cells unit 18) ≡ true → (numbers lent_room left : List ℕ) (many : ℕ)
      → ◌≡◌ {A = Result ℕ BuildError × List ℕ} (Ok many, left) (build_call 1 numbers lent_room) → words ≡ take many left
      → receive_call 1 cells memory unit first room
      ≡ (Ok (record { view = record { count = length numbers }; serial = serial }), cells, over (map number_of (lent numbers)) room)
  given e numbers lent_room left many built stand =
      received true e ∙ sym (message_received 1 memory first room serial true enough refl (sym (build_then_read numbers lent_room left room many built enough)) (sym stand))
