-- A side's window with so many words more or fewer, and with its load so many words on.
-- Assumes nothing.
use Rattle.std.specs.Prelude.{List, [], ◌∷◌, ◌++◌, ◌≡◌, ℕ, ◌+◌, ◌-◌, ◌*◌, ◌/◌, ◌%◌, ◌≤◌, ◌<◌, length, take, drop}
use Rattle.std.proofs.Common.{ap, ◌∙◌, arith, length-take-le}
use Rattle.std.proofs.Math.Seq.{paste}
use Rattle.codec.specs.Window.{cell, window, splice}
use Rattle.codec.specs.Laws.WindowLaws.{length_splice, length_window}
use Rattle.plain.specs.Places.{front, behind, without_oldest}
use Rattle.plain.specs.Laws.Heads.{head_then_silo}
use Rattle.service.specs.Laws.Splices.{splice_in_window}

-- the ring's cell with so many words more, and without so many of the oldest
abbrev pub with_more : ℕ → ℕ → ℕ
with_more ring n = ring + n * 64

abbrev pub with_fewer : ℕ → ℕ → ℕ
with_fewer ring n = (ring % 64 + n) % 64 + (ring / 64 - n) * 64

-- ---- the two parts of such a cell

module _ (ring n : ℕ) where
  more_start : with_more ring n % 64 ≡ ring % 64
  more_start = omega arith

  more_length : with_more ring n / 64 ≡ ring / 64 + n
  more_length = omega arith

  fewer_start : with_fewer ring n % 64 ≡ (ring % 64 + n) % 64
  fewer_start = omega arith

  fewer_length : with_fewer ring n / 64 ≡ ring / 64 - n
  fewer_length = omega arith

-- a place and so many on, where that does not go round
straight_on : (place n i : ℕ) → i < n → place % 64 + n ≤ 64 → (place + i) % 64 ≡ place % 64 + i
straight_on place n i h straight = omega arith

one_on : (place : ℕ) → (place % 64 + 1) % 64 ≡ (place + 1) % 64
one_on place = omega arith

-- where none of the words goes round, each is put one place on, and taken from one place on
module _ (ring n i : ℕ) (h : i < n) where
  pub behind_more : behind ring + n ≤ 64 → behind (with_more ring i) ≡ behind ring + i
  behind_more straight =
      let sum : ring % 64 + (ring / 64 + i) ≡ ring % 64 + ring / 64 + i = omega arith in
      rw (more_start ring i, more_length ring i, sum) (straight_on (ring % 64 + ring / 64) n i h straight)

  pub front_fewer : front ring + n ≤ 64 → front (with_fewer ring i) ≡ front ring + i
  front_fewer straight = omega arith

  -- and with each that is taken there is one fewer
  module _ (held : n ≤ ring / 64) where
    pub fewer_next : without_oldest (with_fewer ring i) ≡ with_fewer ring (i + 1)
    fewer_next =
        let sum : ring % 64 + i + 1 ≡ ring % 64 + (i + 1) = omega arith in
        let left : ring / 64 - i - 1 ≡ ring / 64 - (i + 1) = omega arith in
        rw (fewer_start ring i, fewer_length ring i, one_on (ring % 64 + i), sum, left)

    pub fewer_some : 64 ≤ with_fewer ring i
    fewer_some = omega arith

    pub fewer_whole : ring < 4160 → with_fewer ring i < 4160
    fewer_whole few = omega arith

abbrev pub head_on : List ℕ → ℕ → ℕ → ℕ → List ℕ
head_on cells at ring n =
    ring
    ∷ cell cells (at + 1)
    ∷ cell cells (at + 2)
    ∷ (cell cells (at + 3) + n)
    ∷ (cell cells (at + 4) + n)
    ∷ cell cells (at + 5)
    ∷ cell cells (at + 6)
    ∷ cell cells (at + 7)
    ∷ cell cells (at + 8)
    ∷ []

-- so many words more, from a place of a memory on
abbrev pub words_put : List ℕ → ℕ → List ℕ → ℕ → ℕ → List ℕ
words_put cells at memory from n = head_on cells at (with_more (cell cells at) n) n ++ paste (window cells (at + 9) 64) (behind (cell cells at)) (drop from memory) n

module _ (cells : List ℕ) (at : ℕ) (head : List ℕ) (nine : length head ≡ 9) (fits : at + 73 ≤ length cells) where
  -- the head put, and then words from a place of the ring on
  pub head_then_words : (free : ℕ) (source : List ℕ) (n : ℕ) → free + n ≤ 64 → n ≤ length source
      → splice (splice cells at head) (at + 9 + free) (take n source) ≡ splice cells at (head ++ paste (window cells (at + 9) 64) free source n)
  head_then_words free source n room enough =
      let ws = take n source in
      let silo = window cells (at + 9) 64 in
      let few : length ws ≡ n = length-take-le n source enough in
      let wide : length silo ≡ 64 = length_window cells (at + 9) 64 (omega arith) in
      let put : splice silo free ws ≡ paste silo free source n = rw few in
      splice_in_window (splice cells at head) (at + 9) 64 free ws (omega arith) (omega (arith, length_splice cells at head (omega arith)))
      ∙ head_then_silo cells at head nine fits (λ (l : List ℕ). splice l free ws) (length_splice silo free ws (omega arith) ∙ wide)
      ∙ ap (λ (l : List ℕ). splice cells at (head ++ l)) put
