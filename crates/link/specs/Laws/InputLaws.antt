-- What a read does to what is due.
-- Assumes nothing.
use borrow.Rule.Slice.PartMut.{put_mid, take_put}
use Rattle.std.specs.Prelude.{false, List, [], ◌++◌, ◌≡◌, ℕ, ◌-◌, ◌≤◌, ◌<◌, length, take, drop}
use Rattle.std.proofs.Common.{append_assoc, sym, ap, subst, ◌∙◌, arith, take-add}
use Rattle.script.specs.Windows.{rest_kept}
use Rattle.script.specs.Laws.WindowLaws.{rest_long, rest_same, rest_stands}
use Rattle.link.specs.States.{Answered, after_read}
use Rattle.link.specs.Script.{printed}
use Rattle.link.specs.Turns.{unwritten, unread, due, Turned, SoundInput, InputTurn}
use Rattle.link.specs.Laws.PartLaws.{part, part_long, lent_long}
use Rattle.link.specs.Laws.TextLaws.{ends}
use Rattle.link.specs.declared.state.State.{State}
use Rattle.link.specs.declared.streams.Answer.{Answer}

-- `left` bytes stand at the front of the window, and are those that were not performed yet
module _ (state : State) (window after : List ℕ) (left : ℕ) (stands : take left after ≡ unread state.input window)
    (inside : left ≤ length after) (wide : 770 ≤ length after) (open' : state.input.ended ≡ false) (going : state.done ≡ false) where
  -- what was due, by what stands in the window now
  was_due : (lines cells memories more : List ℕ)
      → due state window lines cells memories more ≡ unwritten state.text lines ++ printed (take left after ++ more) cells memories
  was_due lines cells memories more =
      rw open' (ap (λ (l : List ℕ). unwritten state.text lines ++ printed (l ++ more) cells memories) (sym stands))

  read_turn : (answer : Answer) → Answered (length after - left) answer → InputTurn state window (after_read state left answer) after
  read_turn (Answer.Moved count) moved =
      let bytes = take count (drop left after) in
      record {
        text = λ lines h. h;
        sound = record { front = omega arith; filled = omega arith; wide = wide };
        turned =
            λ lines cells memories. ends going
            (Turned.got bytes
            (λ more. was_due lines cells memories (bytes ++ more)
            ∙ ap (λ (l : List ℕ). unwritten state.text lines ++ printed l cells memories)
            (sym (append_assoc (take left after) bytes more) ∙ ap (λ (l : List ℕ). l ++ more) (sym (take-add left count after)))));
      }
  read_turn Answer.Again moved =
      record {
        text = λ lines h. h;
        sound = record { front = omega arith; filled = inside; wide = wide };
        turned = λ lines cells memories. ends going (Turned.worked (was_due lines cells memories));
      }
  read_turn Answer.Ended moved =
      record {
        text = λ lines h. h;
        sound = record { front = omega arith; filled = inside; wide = wide };
        turned = λ lines cells memories. ends going (Turned.ended (λ more. was_due lines cells memories []));
      }
  read_turn Answer.Failed moved =
      record {
        text = λ lines h. h;
        sound = record { front = omega arith; filled = inside; wide = wide };
        turned = λ lines cells memories. Turned.failed;
      }

-- the same from what `keep_rest` answered and left, and a read into the room behind
module _ (state : State) (window : List ℕ) (sound : SoundInput state.input window) {left : ℕ} {middle : List ℕ}
    (kept : ◌≡◌ {A = ℕ × List ℕ} (left, middle) (rest_kept window state.input.at state.input.end)) where
  same_long : length middle ≡ length window
  same_long = rest_same window state.input.at state.input.end sound.front sound.filled kept

  within : left ≤ length middle
  within =
      let e : left ≡ state.input.end - state.input.at =
      rest_long window state.input.at state.input.end sound.front sound.filled kept in
      let h = sound.filled in
      let k = same_long in
      omega arith

  -- there is room for more
  pub room_left : length (unread state.input window) < 770 → 0 < length (take (length middle - left) (drop left middle))
  room_left few =
      let e : left ≡ state.input.end - state.input.at =
      rest_long window state.input.at state.input.end sound.front sound.filled kept in
      let h : state.input.end - state.input.at < 770 = rw (part_long state.input.at state.input.end window sound.filled) at few in
      let wide = sound.wide in
      let k = same_long in
      rw (lent_long left (length middle) middle (omega arith)) (omega arith)

  pub room_most : length (take (length middle - left) (drop left middle)) ≤ length window
  room_most =
      let k = same_long in
      rw (lent_long left (length middle) middle (omega arith)) (omega arith)

  pub input_turn : state.input.ended ≡ false → state.done ≡ false → (room : List ℕ) (answer : Answer)
      → Answered (length (take (length middle - left) (drop left middle))) answer
      → length (put_mid left (length middle - left) middle room) ≡ length window
      → InputTurn state window (after_read state left answer) (put_mid left (length middle - left) middle room)
  input_turn open' going room answer moved same =
      let after = put_mid left (length middle - left) middle room in
      let wide = sound.wide in
      let k = same_long in
      let inside = within in
      let most : length (take (length middle - left) (drop left middle)) ≡ length after - left =
      lent_long left (length middle) middle (omega arith) ∙ omega arith in
      read_turn state window after left
      (take_put left (length middle - left) middle room inside
      ∙ rest_stands window state.input.at state.input.end sound.front sound.filled kept
      ∙ part state.input.at state.input.end window)
      (omega arith) (omega arith) open' going answer (subst (λ (n : ℕ). Answered n answer) most moved)
