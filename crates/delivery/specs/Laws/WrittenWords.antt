-- A memory with a message put in, word by word.
-- Assumes nothing.
use Rattle.std.specs.Prelude.{List, ◌++◌, ◌≡◌, ℕ, ◌+◌, ◌-◌, ◌≤◌, ◌<◌, length, get_or, take, drop}
use Rattle.std.proofs.Common.{ap, sym, ◌∙◌, arith, length-append, length-drop, get_or-append-add, get_or-drop, get_or-take, length-take-le}
use Rattle.std.proofs.Math.ListN.{get_or-append}
use Rattle.delivery.specs.Written.{written}

module _ (memory : List ℕ) (start : ℕ) (content : List ℕ) (fits : start + length content ≤ length memory) where
  before_length : length (take start memory) ≡ start
  before_length = length-take-le start memory (omega arith)

  upto_length : length (take start memory ++ content) ≡ start + length content
  upto_length = length-append (take start memory) content ∙ ap (λ (k : ℕ). k + length content) before_length

  pub written_length : length (written memory start content) ≡ length memory
  written_length =
      omega (arith, length-append (take start memory ++ content) (drop (start + length content) memory), upto_length, length-drop (start + length content) memory)

  -- in the stretch the message's words
  pub written_inside : (i : ℕ) → i < length content → get_or (written memory start content) (start + i) 0 ≡ get_or content i 0
  written_inside i h =
      get_or-append (take start memory ++ content) (drop (start + length content) memory) 0 (start + i) (omega (arith, upto_length))
      ∙ ap (λ (k : ℕ). get_or (take start memory ++ content) (k + i) 0) (sym before_length)
      ∙ get_or-append-add (take start memory) content i 0

  -- before it and behind it what was there
  pub written_before : (i : ℕ) → i < start → get_or (written memory start content) i 0 ≡ get_or memory i 0
  written_before i h =
      get_or-append (take start memory ++ content) (drop (start + length content) memory) 0 i (omega (arith, upto_length))
      ∙ get_or-append (take start memory) content 0 i (omega (arith, before_length))
      ∙ get_or-take start memory i 0 h

  pub written_behind : (i : ℕ) → start + length content ≤ i → get_or (written memory start content) i 0 ≡ get_or memory i 0
  written_behind i h =
      let k = i - (start + length content) in
      let there : i ≡ length (take start memory ++ content) + k = omega (arith, upto_length) in
      let here : start + length content + k ≡ i = omega arith in
      ap (λ (j : ℕ). get_or (written memory start content) j 0) there
      ∙ get_or-append-add (take start memory ++ content) (drop (start + length content) memory) k 0
      ∙ get_or-drop (start + length content) memory k 0
      ∙ ap (λ (j : ℕ). get_or memory j 0) here
