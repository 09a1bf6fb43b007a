-- What each thing that is found does to what is due.
-- Assumes nothing.
use Rattle.std.proofs.Common.{ltb-false, subst, ◌∙◌, arith, drop-drop}
use Rattle.std.specs.Prelude.{Bool, true, false, ◌≡◌, refl, ℕ, ◌+◌, ◌-◌, ◌≤◌, ◌<◌, ltb, length, take, drop}
use mathlib.Core.List.{List, [], ◌++◌, append_assoc, append-nil}
use Rattle.std.proofs.Math.Path.{sym, ap}
use Rattle.laws.specs.Pick.{pick, either}
use Rattle.script.specs.Lines.{line_text}
use Rattle.script.specs.Records.{next_record}
use Rattle.script.specs.Laws.RecordLaws.{Within, within, at_end_told}
use Rattle.script.specs.declared.calls.Call.{Call}
use Rattle.script.specs.declared.calls.Found.{Found}
use Rattle.script.specs.declared.lines.Line.{Line}
use Rattle.performing.specs.Perform.{Outcome, performed}
use Rattle.link.specs.Script.{printed_for, printed}
use Rattle.link.specs.States.{passed, given_up, finishing}
use Rattle.link.specs.Turns.{unwritten, unread, due, Turned, SoundText, SoundInput, Turn, Put}
use Rattle.link.specs.Laws.PartLaws.{part_long, part_none}
use Rattle.link.specs.Laws.ScriptLaws.{printed_call, printed_stop, printed_end}
use Rattle.link.specs.Laws.TextLaws.{ends, all_written}
use Rattle.link.specs.declared.state.State.{State}

-- what is due with a line put behind the text
put_due : (state : State) (window lines : List ℕ) (line : Line) (next : State) (lines' cells memories more : List ℕ) → Put state lines line next lines'
    → due next window lines' cells memories more
    ≡ unwritten state.text lines
    ++ (line_text line ++ printed (unread state.input window ++ pick state.input.ended [] more) cells memories)
put_due state window lines line next lines' cells memories more put =
    rw (put.same, put.stands)
    (append_assoc (unwritten state.text lines) (line_text line)
    (printed (unread state.input window ++ pick state.input.ended [] more) cells memories))

goes_on : (bytes : List ℕ) (ended : Bool) → next_record bytes ended ≡ Found.More → ended ≡ false
goes_on bytes true e = absurd (at_end_told bytes e)
goes_on bytes false e = refl

module _ (state : State) (window lines cells memories : List ℕ) (input : SoundInput state.input window) (going : state.done ≡ false) where
  -- a record lies in the bytes at hand
  pub inside : (call : Call) (n : ℕ) → next_record (unread state.input window) state.input.ended ≡ Found.Call call n
      → state.input.at + n ≤ state.input.end
  inside call n e =
      let lies : Within (length (unread state.input window)) (Found.Call call n) =
      subst (Within (length (unread state.input window))) e (within (unread state.input window) state.input.ended) in
      let long : length (unread state.input window) ≡ state.input.end - state.input.at =
      part_long state.input.at state.input.end window input.filled in
      let front = input.front in
      let most = lies.1 in
      omega arith

  pub call_turn : (call : Call) (n : ℕ) → next_record (unread state.input window) state.input.ended ≡ Found.Call call n
      → (line : Line) (cells' memories' : List ℕ)
      → ◌≡◌ {A = Outcome} (line, cells', memories') (performed (unread state.input window) cells memories call)
      → (next : State) (lines' : List ℕ) → Put (passed state n) lines line next lines'
      → Turn state window lines cells memories next window lines' cells' memories'
  call_turn call n e line cells' memories' did next lines' put =
      let bytes = unread state.input window in
      let u = unwritten state.text lines in
      record {
        input = rw put.same (record { front = inside call n e; filled = input.filled; wide = input.wide });
        text = put.sound;
        turned =
            ends (put.going ∙ going)
            (Turned.worked
            (λ more.
            let x = pick state.input.ended [] more in
            ap (λ (l : List ℕ). u ++ l)
            (printed_call bytes more cells memories state.input.ended call n e
            ∙ ap (λ (p : Outcome). line_text p.0 ++ printed (drop n bytes ++ x) p.1 p.2) (sym did)
            ∙ ap (λ (l : List ℕ). line_text line ++ printed (l ++ x) cells' memories')
            (drop-drop n state.input.at (take state.input.end window)))
            ∙ sym (put_due (passed state n) window lines line next lines' cells' memories' more put)));
      }

  pub stop_turn : next_record (unread state.input window) state.input.ended ≡ Found.Stop
      → (next : State) (lines' : List ℕ) → Put (given_up state) lines Line.Stop next lines'
      → Turn state window lines cells memories next window lines' cells memories
  unfolding printed_for
  stop_turn e next lines' put =
      let bytes = unread state.input window in
      let u = unwritten state.text lines in
      let end = state.input.end in
      record {
        input = rw put.same (record { front = omega arith; filled = input.filled; wide = input.wide });
        text = put.sound;
        turned =
            ends (put.going ∙ going)
            (Turned.worked
            (λ more.
            ap (λ (l : List ℕ). u ++ l)
            (printed_stop bytes more cells memories state.input.ended e
            ∙ sym (append-nil (line_text Line.Stop))
            ∙ ap (λ (l : List ℕ). line_text Line.Stop ++ printed (l ++ []) cells memories) (sym (part_none end end window (omega arith))))
            ∙ sym (put_due (given_up state) window lines Line.Stop next lines' cells memories more put)));
      }

  pub finish_turn : next_record (unread state.input window) state.input.ended ≡ Found.End → SoundText state.text lines
      → Turn state window lines cells memories (finishing state) window lines cells memories
  finish_turn e text =
      either (λ (next : State). Turn state window lines cells memories next window lines cells memories) (ltb 0 state.text.held)
      (λ some.
      record {
        input = input;
        text = record { front = text.front; filled = text.filled };
        turned = ends going (Turned.worked (λ more. refl));
      })
      (λ none.
      let h : state.text.held ≤ 0 = ltb-false _ _ none in
      record {
        input = input;
        text = text;
        turned =
            Turned.finished
            (λ more. all_written state lines text going (omega arith) _
            ∙ printed_end (unread state.input window) more cells memories state.input.ended e);
      })

  -- more is wanted only of an input that goes on, and of fewer bytes than the longest record has
  pub more_wanted : next_record (unread state.input window) state.input.ended ≡ Found.More
      → (length (unread state.input window) < 770) × (state.input.ended ≡ false)
  more_wanted e = (
    subst (Within (length (unread state.input window))) e (within (unread state.input window) state.input.ended),
    goes_on (unread state.input window) state.input.ended e,
  )
