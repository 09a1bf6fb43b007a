-- Document 02, No. 6: "copied to the receiver with the opening word and kept after closing". Of R's rules the opening takes the serial, and
-- no other touches it.
-- Assumes nothing.
use Rattle.std.specs.Prelude.{◌≡◌, refl, ℕ}
use Rattle.laws.specs.Pick.{by, pick}
use Rattle.receiver.specs.declared.side.Receiver.{Receiver}
use Rattle.words.specs.declared.lines.Sent.{Sent}
use Rattle.answering.specs.Choice.{decided}
use Rattle.answering.specs.Rules.{answered_as, answered_by}
use Rattle.answering.specs.declared.choice.Rule.{Rule}
use Rattle.answering.specs.Serials.{opens_by}

module _ (r : Receiver) (from : ℕ) (sent : Sent) where
  by_rule : (rule : Rule) → (answered_as r from sent rule).side.end.serial ≡ pick (opens_by rule) sent.serial r.end.serial
  by_rule Rule.Other = refl
  by_rule Rule.Reopened = refl
  by_rule Rule.Opens = by r.commands.receive_data (λ e. rw e) (λ e. rw e)
  by_rule Rule.Refuses = refl
  by_rule Rule.Faulted = refl
  by_rule Rule.BadParity = refl
  by_rule Rule.OffLine = refl
  by_rule Rule.Rejects = refl
  by_rule Rule.Truncates = refl
  by_rule Rule.TakesCrc = refl
  by_rule Rule.BadCrc = refl
  by_rule Rule.Restarts = refl
  by_rule Rule.Waits = refl
  by_rule Rule.Succeeds = refl
  by_rule Rule.Stores = by r.commands.receive_data (λ e. rw e) (λ e. rw e)
  by_rule Rule.NotReady = refl
  by_rule Rule.Null = refl

  pub only_opening : (answered_by r from sent).side.end.serial ≡ pick (opens_by (decided r from sent)) sent.serial r.end.serial
  only_opening = by_rule (decided r from sent)
