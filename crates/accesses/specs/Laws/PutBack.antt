-- A side out of its window, the rule, and the side put back where a test says that the rule changes it: whatever the side, the
-- rule, and the answer with the cells. `found` is the side as a run had it and `side` as the definition has it; `gave` and
-- `asked` are what the rule and the test gave.
-- Assumes nothing.
use Rattle.std.specs.Prelude.{Bool, true, false, ◌≡◌, List, ℕ}
use Rattle.std.proofs.Common.{ap, ◌∙◌}
use Rattle.laws.specs.Pick.{pick, past, here}

module _ {S W X : Type 0} (test : S → Bool) (rule : S → W) (after : W → X) (other : X) {found side : S} {gave : W} {asked : Bool} {x : X} where
  pub put_back : found ≡ side → gave ≡ rule found → asked ≡ test found → asked ≡ true → x ≡ after gave → x ≡ pick (test side) (after (rule side)) other
  put_back is e t held p = here _ (rw (t, is) at (held)) (p ∙ ap after (rw is at (e)))

  pub left_alone : found ≡ side → gave ≡ rule found → asked ≡ test found → asked ≡ false → x ≡ after gave → x ≡ pick (test side) other (after (rule side))
  left_alone is e t failed p = past _ (rw (t, is) at (failed)) (p ∙ ap after (rw is at (e)))

-- what a rule gave of two things as a run had them, of these as the definition has them
pub as_defined : {A B X : Type 0} (rule : A → B → X) {x : X} {a a' : A} {b b' : B} → x ≡ rule a b → a ≡ a' → b ≡ b' → x ≡ rule a' b'
as_defined rule e p q = rw (p, q) at (e)

-- what a function on a fitted unit answers and leaves is what one on the cells does
pub at_cells : {A : Type 0} (f : List ℕ → ℕ → A × List ℕ) {answer : A} {after left before cells : List ℕ} {number unit : ℕ} → after ≡ left → before ≡ cells → number ≡ unit
    → (answer, left) ≡ f before number → (answer, after) ≡ f cells unit
at_cells f e p q is = rw (e, ← p, ← q) is

pub left_at_cells : (f : List ℕ → ℕ → List ℕ) {after left before cells : List ℕ} {number unit : ℕ} → after ≡ left → before ≡ cells → number ≡ unit
    → left ≡ f before number → after ≡ f cells unit
left_at_cells f e p q is = rw (e, ← p, ← q) is
