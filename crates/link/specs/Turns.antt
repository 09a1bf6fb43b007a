-- What the script program owes, and what a turn of it does to that. A turn performs a record, or makes one call of the system.
-- Assumes nothing.
use Rattle.std.specs.Prelude.{Bool, true, false, List, [], ◌++◌, ◌≡◌, ℕ, ◌≤◌, length, take, drop}
use Rattle.laws.specs.Pick.{pick}
use Rattle.script.specs.Lines.{line_text}
use Rattle.script.specs.declared.lines.Line.{Line}
use Rattle.link.specs.Script.{printed}
use Rattle.link.specs.declared.state.Input.{Input}
use Rattle.link.specs.declared.state.State.{State}
use Rattle.link.specs.declared.state.Text.{Text}

-- the text that is not written yet, and the bytes of the input that are read and not performed yet
abbrev pub unwritten : Text → List ℕ → List ℕ
unwritten text lines = drop text.from (take text.held lines)

abbrev pub unread : Input → List ℕ → List ℕ
unread input window = drop input.at (take input.end window)

-- what is still to be printed, where `more` is what the input still has: the text that is not written yet, and what a script prints
-- that goes on with the bytes at hand. Nothing comes after an input that has ended, or been given up.
abbrev pub due : State → List ℕ → List ℕ → List ℕ → List ℕ → List ℕ → List ℕ
due state window lines cells memories more =
    unwritten state.text lines ++ printed (unread state.input window ++ pick state.input.ended [] more) cells memories

-- What a turn does, where `before` and `after` say what is due by what the input still has.
pub data Turned (before after : List ℕ → List ℕ) : Bool → Type 0 where
  -- nothing is written or read: as much is due as before
  worked : ((more : List ℕ) → before more ≡ after more) → Turned before after false
  -- the system took a text, the beginning of what is due
  wrote : (text : List ℕ) → ((more : List ℕ) → before more ≡ text ++ after more) → Turned before after false
  -- the system gave some bytes of the input
  got : (bytes : List ℕ) → ((more : List ℕ) → before (bytes ++ more) ≡ after more) → Turned before after false
  -- the system said that the input has ended
  ended : ((more : List ℕ) → before [] ≡ after more) → Turned before after false
  -- the program is done: nothing is due, whatever the input still has
  finished : ((more : List ℕ) → before more ≡ []) → Turned before after true
  -- the program is done, and has said why on standard error: a write or a read failed
  failed : Turned before after true

-- ---- what holds of the places between two turns

pub record SoundInput (input : Input) (window : List ℕ) : Type 0 where
  pub front : input.at ≤ input.end
  pub filled : input.end ≤ length window
  pub wide : 770 ≤ length window

pub record SoundText (text : Text) (lines : List ℕ) : Type 0 where
  pub front : text.from ≤ text.held
  pub filled : text.held ≤ length lines

-- ---- what the functions of a turn ensure: of one that has the text alone, of one that has the input alone, and of a whole turn

pub record TextTurn (state : State) (lines : List ℕ) (next : State) : Type 0 where
  pub same : next.input ≡ state.input
  pub sound : SoundText next.text lines
  pub turned : (window cells memories : List ℕ)
      → Turned (due state window lines cells memories) (due next window lines cells memories) next.done

pub record InputTurn (state : State) (window : List ℕ) (next : State) (window' : List ℕ) : Type 0 where
  pub text : (lines : List ℕ) → SoundText state.text lines → SoundText next.text lines
  pub sound : SoundInput next.input window'
  pub turned : (lines cells memories : List ℕ)
      → Turned (due state window lines cells memories) (due next window' lines cells memories) next.done

pub record Turn (state : State) (window lines cells memories : List ℕ) (next : State) (window' lines' cells' memories' : List ℕ) : Type 0 where
  pub input : SoundInput next.input window'
  pub text : SoundText next.text lines'
  pub turned : Turned (due state window lines cells memories) (due next window' lines' cells' memories') next.done

-- a line put behind the text
pub record Put (state : State) (lines : List ℕ) (line : Line) (next : State) (lines' : List ℕ) : Type 0 where
  pub same : next.input ≡ state.input
  pub going : next.done ≡ state.done
  pub sound : SoundText next.text lines'
  pub stands : unwritten next.text lines' ≡ unwritten state.text lines ++ line_text line
