-- The rules as the code does them: what is told by each, and what is done to R, once the codes of the slice are shown. That this is what
-- `Rules` says is `taken_apart`.
-- Assumes nothing.
use Rattle.std.specs.Prelude.{Bool, true, false, ◌≡◌, refl, ℕ}
use Rattle.receiver.specs.declared.side.Receiver.{Receiver}
use Rattle.words.specs.Lines.{answered}
use Rattle.words.specs.declared.lines.Answer.{Answer}
use Rattle.words.specs.declared.lines.Sent.{Sent}
use Rattle.answering.specs.Events.{showing, closed, parity_failed, transmission_failed, reject_completed, succeeded, word_stored, opening, crc_taken, restarted, truncated_now}
use Rattle.answering.specs.Rules.{Answered, answered_as}
use Rattle.answering.specs.declared.choice.Rule.{Rule}

-- the answer; a message that ends was truncated, or not
abbrev pub told_by : Rule → Bool → Answer
told_by Rule.Other truncated = answered 0
told_by Rule.Reopened truncated = answered 0
told_by Rule.Opens truncated = answered 3
told_by Rule.Refuses truncated = answered 0
told_by Rule.Faulted truncated = answered 0
told_by Rule.BadParity truncated = answered 2
told_by Rule.OffLine truncated = answered 0
told_by Rule.Rejects truncated = record { code = 1; rejects = true; truncates = false; restarts = false; truncated = false }
told_by Rule.Truncates truncated = record { code = 1; rejects = false; truncates = true; restarts = false; truncated = false }
told_by Rule.TakesCrc truncated = answered 1
told_by Rule.BadCrc truncated = answered 2
told_by Rule.Restarts truncated = record { code = 3; rejects = false; truncates = false; restarts = true; truncated = false }
told_by Rule.Waits truncated = answered 1
told_by Rule.Succeeds truncated = record { code = 3; rejects = false; truncates = false; restarts = false; truncated = truncated }
told_by Rule.Stores truncated = answered 3
told_by Rule.NotReady truncated = answered 1
told_by Rule.Null truncated = answered 1

-- what is done: a slice that is not of its channel leaves R as it was, and in any other r is R with the codes of the slice shown
abbrev pub done_by : Receiver → Receiver → ℕ → Sent → Rule → Receiver
done_by was r from sent Rule.Other = was
done_by was r from sent Rule.Reopened = closed (transmission_failed r)
done_by was r from sent Rule.Opens = word_stored (opening r from sent.serial) sent
done_by was r from sent Rule.Refuses = was
done_by was r from sent Rule.Faulted = closed r
done_by was r from sent Rule.BadParity = closed (parity_failed r)
done_by was r from sent Rule.OffLine = closed (transmission_failed r)
done_by was r from sent Rule.Rejects = closed (reject_completed r)
done_by was r from sent Rule.Truncates = truncated_now r
done_by was r from sent Rule.TakesCrc = crc_taken r sent
done_by was r from sent Rule.BadCrc = closed (parity_failed r)
done_by was r from sent Rule.Restarts = restarted r
done_by was r from sent Rule.Waits = r
done_by was r from sent Rule.Succeeds = closed (succeeded r)
done_by was r from sent Rule.Stores = word_stored r sent
done_by was r from sent Rule.NotReady = r
done_by was r from sent Rule.Null = r

-- the two parts together
abbrev pub apart : Receiver → ℕ → Sent → Rule → Answered
apart r from sent rule =
    record {
      side = done_by r (showing r sent.code (told_by rule r.channel.truncated).code) from sent rule;
      answer = told_by rule r.channel.truncated;
    }

pub taken_apart : (r : Receiver) (from : ℕ) (sent : Sent) (rule : Rule) → apart r from sent rule ≡ answered_as r from sent rule
taken_apart r from sent Rule.Other = refl
taken_apart r from sent Rule.Reopened = refl
taken_apart r from sent Rule.Opens = refl
taken_apart r from sent Rule.Refuses = refl
taken_apart r from sent Rule.Faulted = refl
taken_apart r from sent Rule.BadParity = refl
taken_apart r from sent Rule.OffLine = refl
taken_apart r from sent Rule.Rejects = refl
taken_apart r from sent Rule.Truncates = refl
taken_apart r from sent Rule.TakesCrc = refl
taken_apart r from sent Rule.BadCrc = refl
taken_apart r from sent Rule.Restarts = refl
taken_apart r from sent Rule.Waits = refl
taken_apart r from sent Rule.Succeeds = refl
taken_apart r from sent Rule.Stores = refl
taken_apart r from sent Rule.NotReady = refl
taken_apart r from sent Rule.Null = refl
