-- A plain move, on the cells of a side's window.
-- Assumes nothing.
use Rattle.std.specs.Prelude.{Bool, true, false, ◌&&◌, ◌||◌, ◌≡◌, List, [], ◌∷◌, ◌++◌, ℕ, ◌+◌, ◌*◌, ◌^◌, ◌≤◌, ◌<◌, ltb, set, Result, Option}
use Rattle.cells.specs.Fitted.{transmitter_of, receiver_of, put_transmitter, put_receiver}
use Rattle.cells.specs.Layout.{memory_length}
use Rattle.codec.specs.Window.{cell, window}
use Rattle.laws.specs.Bits.{bits, bit_at}
use Rattle.plain.specs.Places.{behind, with_one, without_oldest}
use Rattle.receiver.specs.Moves as R
use Rattle.transmitter.specs.Moves as T
use Rattle.words.specs.declared.answers.Refusal.{Refusal}

-- whether a silo has room, by its ring's cell: its length is below 64
abbrev pub room_by : ℕ → Bool
room_by ring = ltb ring 4096

-- a head of which a plain move changes three cells alone: its numbers stand within their limits, its own cell below one of its own; it is
-- loaded, and INH ADI is clear; neither the address nor the count leaves its 15 bits with this word; and the period's mark stands only
-- where it counts
pub record Plain (block own limit low count control : ℕ) (busy : Bool) : Type 0 where
  pub since : block ≤ 128
  pub single : own < limit
  pub low15 : low < 32767
  pub count15 : count < 32767
  pub loaded : bit_at control 1 ≡ true
  pub goes : bit_at control 2 ≡ false
  pub marked : bit_at control 3 && busy ≡ bit_at control 3

-- a transmitter's head at a place of the cells: besides, it is not ending and awaits no verdict
pub record PlainOut (cells : List ℕ) (at : ℕ) : Type 0 where
  pub head : Plain (cell cells (at + 1)) (cell cells (at + 2)) 32 (cell cells (at + 3)) (cell cells (at + 4)) (cell cells (at + 5)) (bit_at (cell cells (at + 5)) 13 || bit_at (cell cells (at + 6)) 6)
  pub going : bit_at (cell cells (at + 6)) 8 ≡ false
  pub settled : cell cells (at + 6) < 2 ^ 15

-- a receiver's: besides, its silo's length is one that a silo can have
pub record PlainIn (cells : List ℕ) (at : ℕ) : Type 0 where
  pub head : Plain (cell cells (at + 1)) (cell cells (at + 2)) 1 (cell cells (at + 3)) (cell cells (at + 4)) (cell cells (at + 5)) (bit_at (cell cells (at + 6)) 4)
  pub few : cell cells at < 4160

-- the word of the memory that a load names: EA17 and EA16 above 15 bits
abbrev pub word_at : ℕ → ℕ → ℕ
word_at low control = bits control 4 2 * 2 ^ 15 + low

-- the head of a side with this ring's cell, and with its load one word on
abbrev pub head_moved : List ℕ → ℕ → ℕ → List ℕ
head_moved cells at ring =
    ring
    ∷ cell cells (at + 1)
    ∷ cell cells (at + 2)
    ∷ (cell cells (at + 3) + 1)
    ∷ (cell cells (at + 4) + 1)
    ∷ cell cells (at + 5)
    ∷ cell cells (at + 6)
    ∷ cell cells (at + 7)
    ∷ cell cells (at + 8)
    ∷ []

-- a window with its load one word on, and a word more in its silo, or its oldest word taken
abbrev pub word_put : List ℕ → ℕ → ℕ → List ℕ
word_put cells at word = head_moved cells at (with_one (cell cells at)) ++ set (window cells (at + 9) 64) (behind (cell cells at)) word

abbrev pub word_taken : List ℕ → ℕ → List ℕ
word_taken cells at = head_moved cells at (without_oldest (cell cells at)) ++ window cells (at + 9) 64

-- the answer and the cells after a transmitter's move
abbrev pub transmitter_loaded : List ℕ → List ℕ → ℕ → Result (Option ℕ) Refusal × List ℕ
transmitter_loaded cells memory unit =
    let m = T.moved (transmitter_of cells unit) memory (memory_length cells unit) in (m.answer, put_transmitter cells unit m.side)

-- the answer, the cells and the memory after a receiver's
abbrev pub receiver_stored : List ℕ → List ℕ → ℕ → Result (Option ℕ) Refusal × List ℕ × List ℕ
receiver_stored cells memory unit =
    let m = R.moved (receiver_of cells unit) memory (memory_length cells unit) in (m.0.answer, put_receiver cells unit m.0.side, m.1)
