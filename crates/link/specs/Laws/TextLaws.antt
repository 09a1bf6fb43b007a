-- What a write does to what is due.
-- Assumes nothing.
use Rattle.std.specs.Prelude.{Bool, false, List, [], ◌++◌, ◌≡◌, refl, ℕ, ◌-◌, ◌≤◌, take, drop}
use Rattle.std.proofs.Common.{append_assoc, sym, ap, subst, ◌∙◌, arith, take-append-drop, drop-drop}
use Rattle.laws.specs.Pick.{pick}
use Rattle.link.specs.States.{Answered, after_write}
use Rattle.link.specs.Script.{printed}
use Rattle.link.specs.Turns.{unwritten, unread, Turned, SoundText, TextTurn}
use Rattle.link.specs.Laws.PartLaws.{part_none}
use Rattle.link.specs.declared.state.State.{State}
use Rattle.link.specs.declared.streams.Answer.{Answer}

-- a turn after which the program is as done as the state says
pub ends : {before after : List ℕ → List ℕ} {d e : Bool} → d ≡ e → Turned before after e → Turned before after d
ends {before} {after} e turned = subst (Turned before after) (sym e) turned

-- what moved no more than fewer bytes moved no more than more
pub at_most : (answer : Answer) {fewer most : ℕ} → fewer ≤ most → Answered fewer answer → Answered most answer
at_most (Answer.Moved count) h moved = omega arith
at_most Answer.Ended h moved = tt
at_most Answer.Again h moved = tt
at_most Answer.Failed h moved = tt

-- ---- the text

module _ (state : State) (lines : List ℕ) (sound : SoundText state.text lines) (going : state.done ≡ false) where
  -- where all is written, nothing of it is due
  pub all_written : state.text.held ≤ state.text.from → (rest : List ℕ) → unwritten state.text lines ++ rest ≡ rest
  all_written h rest = ap (λ (l : List ℕ). l ++ rest) (part_none state.text.from state.text.held lines h)

  -- a write takes the beginning of it
  pub write_turn : (answer : Answer) → Answered (state.text.held - state.text.from) answer → TextTurn state lines (after_write state answer)
  write_turn (Answer.Moved count) moved =
      let text = unwritten state.text lines in
      record {
        same = refl;
        sound = record { front = let h = sound.front in omega arith; filled = sound.filled };
        turned = λ window cells memories. ends going
            (Turned.wrote (take count text)
            (λ more. let rest = printed (unread state.input window ++ pick state.input.ended [] more) cells memories in
            ap (λ (l : List ℕ). l ++ rest) (sym (take-append-drop count text))
            ∙ append_assoc (take count text) (drop count text) rest
            ∙ ap (λ (l : List ℕ). take count text ++ (l ++ rest)) (drop-drop count state.text.from (take state.text.held lines))));
      }
  write_turn Answer.Again moved =
      record { same = refl; sound = sound; turned = λ window cells memories. ends going (Turned.worked (λ more. refl)) }
  write_turn Answer.Ended moved = record { same = refl; sound = sound; turned = λ window cells memories. Turned.failed }
  write_turn Answer.Failed moved = record { same = refl; sound = sound; turned = λ window cells memories. Turned.failed }
