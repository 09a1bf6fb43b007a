-- What was printed is always a beginning of what the input's script prints, however the system cuts the input and the text, and
-- wherever a run breaks off; and a run that is finished has printed all of it.
-- Assumes nothing.
use Rattle.std.specs.Prelude.{Bool, true, false, List, [], ◌++◌, ◌≡◌, refl, ℕ}
use Rattle.std.proofs.Common.{append_assoc, append-nil, sym, ap, ◌∙◌}
use Rattle.laws.specs.Pick.{pick}
use Rattle.link.specs.Script.{printed}

-- A run up to some turn: the turns of `Turned` one after the other, with what is due now, the bytes that the system gave, the text that
-- it took, and whether it said that the input has ended.
pub data Ran (first : List ℕ → List ℕ) : (List ℕ → List ℕ) → List ℕ → List ℕ → Bool → Type 0 where
  start : Ran first first [] [] false
  worked : {now next : List ℕ → List ℕ} {bytes text : List ℕ} {over : Bool}
      → Ran first now bytes text over → ((more : List ℕ) → now more ≡ next more) → Ran first next bytes text over
  wrote : {now next : List ℕ → List ℕ} {bytes text : List ℕ} {over : Bool} (some : List ℕ)
      → Ran first now bytes text over → ((more : List ℕ) → now more ≡ some ++ next more) → Ran first next bytes (text ++ some) over
  got : {now next : List ℕ → List ℕ} {bytes text : List ℕ} (some : List ℕ)
      → Ran first now bytes text false → ((more : List ℕ) → now (some ++ more) ≡ next more) → Ran first next (bytes ++ some) text false
  ended : {now next : List ℕ → List ℕ} {bytes text : List ℕ}
      → Ran first now bytes text false → ((more : List ℕ) → now [] ≡ next more) → Ran first next bytes text true

-- the text that the system took, and then what is due now, is what was due at first
pub beginning : {first now : List ℕ → List ℕ} {bytes text : List ℕ} {over : Bool} → Ran first now bytes text over
    → (more : List ℕ) → first (bytes ++ pick over [] more) ≡ text ++ now more
beginning Ran.start more = refl
beginning (Ran.worked {text = text} ran same) more = beginning ran more ∙ ap (λ (l : List ℕ). text ++ l) (same more)
beginning (Ran.wrote {next = next} {text = text} some ran same) more =
    beginning ran more ∙ ap (λ (l : List ℕ). text ++ l) (same more) ∙ sym (append_assoc text some (next more))
beginning {first} (Ran.got {bytes = bytes} {text = text} some ran same) more =
    ap first (append_assoc bytes some more) ∙ beginning ran (some ++ more) ∙ ap (λ (l : List ℕ). text ++ l) (same more)
beginning (Ran.ended {text = text} ran same) more = beginning ran [] ∙ ap (λ (l : List ℕ). text ++ l) (same more)

-- for the script program, which begins with nothing read and nothing written
module _ (cells memories : List ℕ) where
  pub prints_a_beginning : {now : List ℕ → List ℕ} {bytes text : List ℕ} {over : Bool}
      → Ran (λ (input : List ℕ). printed input cells memories) now bytes text over
      → (more : List ℕ) → printed (bytes ++ pick over [] more) cells memories ≡ text ++ now more
  prints_a_beginning ran = beginning ran

  -- a run that is finished, after which nothing is due
  pub prints_all : {now : List ℕ → List ℕ} {bytes text : List ℕ} {over : Bool}
      → Ran (λ (input : List ℕ). printed input cells memories) now bytes text over → ((more : List ℕ) → now more ≡ [])
      → (more : List ℕ) → printed (bytes ++ pick over [] more) cells memories ≡ text
  prints_all {text = text} ran finished more = beginning ran more ∙ ap (λ (l : List ℕ). text ++ l) (finished more) ∙ append-nil text
