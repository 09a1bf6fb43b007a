-- How the program's state goes on: what a read or a write of so many bytes leaves of it, and what else a turn does to it.
-- Assumes nothing.
use Rattle.std.specs.Prelude.{Bool, true, false, ℕ, ◌+◌, ◌≤◌, ltb}
use Rattle.laws.specs.Pick.{pick}
use Rattle.link.specs.declared.state.State.{State}
use Rattle.link.specs.declared.streams.Answer.{Answer}

-- the program is done
abbrev pub stopped : State → State
stopped state = record { input = state.input; text = state.text; done = true }

-- the text is to be written
abbrev pub begun : State → State
begun state =
    record {
      input = state.input;
      text = record { from = state.text.from; held = state.text.held; writing = true };
      done = state.done;
    }

-- a record of n bytes is performed; the input is given up
abbrev pub passed : State → ℕ → State
passed state n =
    record {
      input = record { at = state.input.at + n; end = state.input.end; ended = state.input.ended };
      text = state.text;
      done = state.done;
    }

abbrev pub given_up : State → State
given_up state =
    record { input = record { at = state.input.end; end = state.input.end; ended = true }; text = state.text; done = state.done }

-- no more comes: the text is written, and then the program is done
abbrev pub finishing : State → State
finishing state = pick (ltb 0 state.text.held) (begun state) (stopped state)

-- ---- what a call of the system leaves

-- it moved no more of them
abbrev pub Answered : ℕ → Answer → Type 0
Answered most (Answer.Moved count) = count ≤ most
Answered most Answer.Ended = Unit {0}
Answered most Answer.Again = Unit {0}
Answered most Answer.Failed = Unit {0}

-- so many bytes stand at the window's front that are not performed yet; and whether no more come
abbrev pub holding : State → ℕ → Bool → State
holding state end ended = record { input = record { at = 0; end = end; ended = ended }; text = state.text; done = state.done }

abbrev pub after_write : State → Answer → State
after_write state (Answer.Moved count) =
    record {
      input = state.input;
      text = record { from = state.text.from + count; held = state.text.held; writing = state.text.writing };
      done = state.done;
    }
after_write state Answer.Again = state
after_write state Answer.Ended = stopped state
after_write state Answer.Failed = stopped state

abbrev pub after_read : State → ℕ → Answer → State
after_read state left (Answer.Moved count) = holding state (left + count) false
after_read state left Answer.Again = holding state left false
after_read state left Answer.Ended = holding state left true
after_read state left Answer.Failed = stopped (holding state left false)
