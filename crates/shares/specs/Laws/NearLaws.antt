-- Blocks in a row: what is equal stands nearer than a block is long.
-- Assumes nothing.
use Rattle.std.specs.Prelude.{false, ◌≡◌, ℕ, ◌+◌, ◌-◌, ◌≤◌, ◌<◌, eqb, ltb, length, replicate, get_or}
use mathlib.Core.List.{List, [], ◌∷◌, ◌++◌}
use Rattle.std.proofs.Common.{sym, ap, ◌∙◌, ltb-true, ltb-false, length-append, get_or-append-add}
use native.Mathlib.Omega.{arith}
use Rattle.std.proofs.lemmas.Bool.{eqb-false}
use Rattle.std.proofs.lemmas.List.{length-replicate, get_or-replicate}
use Rattle.std.proofs.Math.ListN.{get_or-append}
use Rattle.laws.specs.Pick.{by}
use Rattle.shares.specs.Arranging.{turns_but, blocks_but}
use Rattle.shares.specs.Refusals.{named, any_twice}
use Rattle.shares.specs.Laws.Counting.{not_left, not_right}
use Rattle.shares.specs.declared.wanted.Share.{Share}

-- equal addresses are less than m places apart
abbrev pub Near : ℕ → List ℕ → Type 0
Near m row = (i j : ℕ) → i < j → j < length row → get_or row i 0 ≡ get_or row j 0 → j < i + m

-- an address stands nowhere in a row
abbrev pub Absent : ℕ → List ℕ → Type 0
Absent a row = (i : ℕ) → i < length row → get_or row i 0 ≡ a → ⊥

-- every transmitter wants at most m turns
abbrev pub Most : ℕ → List Share → Type 0
Most m [] = Unit {0}
Most m (share ∷ shares) = (share.turns ≤ m) × Most m shares

-- ---- a block before a row

module _ (n a : ℕ) (row : List ℕ) where
  long : length (replicate n a ++ row) ≡ n + length row
  long = length-append (replicate n a) row ∙ ap (λ (k : ℕ). k + length row) (length-replicate n a)

  pub in_block : (i : ℕ) → i < n → get_or (replicate n a ++ row) i 0 ≡ a
  in_block i h = get_or-append (replicate n a) row 0 i (rw (length-replicate n a) h) ∙ get_or-replicate n i a 0 h

  pub past_block : (i : ℕ) → n ≤ i → get_or (replicate n a ++ row) i 0 ≡ get_or row (i - n) 0
  past_block i h =
      let e : i ≡ length (replicate n a) + (i - n) = omega (arith, length-replicate n a) in
      ap (λ (k : ℕ). get_or (replicate n a ++ row) k 0) e ∙ get_or-append-add (replicate n a) row (i - n) 0

  pub absent_block : (b : ℕ) → (a ≡ b → ⊥) → Absent b row → Absent b (replicate n a ++ row)
  absent_block b other none i h e =
      by (ltb i n) (λ t. other (sym (in_block i (ltb-true i n t)) ∙ e))
      (λ t.
      let past = ltb-false i n t in
      none (i - n) (omega (arith, long)) (sym (past_block i past) ∙ e))

  -- the block's address stands nowhere past it
  pub apart_blocks : Absent a row → (i j : ℕ) → i < n → n ≤ j → j < length (replicate n a ++ row)
      → get_or (replicate n a ++ row) i 0 ≡ get_or (replicate n a ++ row) j 0 → ⊥
  apart_blocks none i j h past inside e =
      none (j - n) (omega (arith, long)) (sym (past_block j past) ∙ sym e ∙ in_block i h)

  pub near_block : (m : ℕ) → n ≤ m → Absent a row → Near m row → Near m (replicate n a ++ row)
  near_block m fits none near i j less inside e =
      by (ltb j n) (λ t. omega (arith, ltb-true j n t))
      (λ t.
      let past = ltb-false j n t in
      by (ltb i n) (λ s. absurd (apart_blocks none i j (ltb-true i n s) past inside e))
      (λ s.
      let behind = ltb-false i n s in
      omega
      (arith, near (i - n) (j - n) (omega arith) (omega (arith, long)) (sym (past_block i behind) ∙ e ∙ past_block j past))))

-- ---- all blocks

module _ (first : ℕ) where
  absent_blocks : (a : ℕ) (shares : List Share) → named a shares ≡ false → Absent a (blocks_but first shares)
  unfolding blocks_but named
  absent_blocks a [] e = λ i h q. omega arith
  absent_blocks a (s ∷ shares) e =
      absent_block (turns_but first s) s.address (blocks_but first shares) a
      (eqb-false s.address a (not_left (eqb s.address a) (named a shares) e))
      (absent_blocks a shares (not_right (eqb s.address a) (named a shares) e))

  -- the first address has its block elsewhere
  pub absent_first : (shares : List Share) → Absent first (blocks_but first shares)
  unfolding blocks_but
  absent_first [] = λ i h q. omega arith
  absent_first (s ∷ shares) =
      by (eqb s.address first) (λ e. rw e (absent_first shares))
      (λ e. rw e (absent_block s.turns s.address (blocks_but first shares) first (eqb-false s.address first e) (absent_first shares)))

  most_but : (m : ℕ) (s : Share) → s.turns ≤ m → turns_but first s ≤ m
  most_but m s h = by (eqb s.address first) (λ e. rw e (omega arith)) (λ e. rw e h)

  pub near_blocks : (m : ℕ) (shares : List Share) → any_twice shares ≡ false → Most m shares → Near m (blocks_but first shares)
  unfolding blocks_but any_twice
  near_blocks m [] once most = λ i j less h q. omega arith
  near_blocks m (s ∷ shares) once most =
      near_block (turns_but first s) s.address (blocks_but first shares) m (most_but m s most.0)
      (absent_blocks s.address shares (not_left (named s.address shares) (any_twice shares) once))
      (near_blocks m shares (not_right (named s.address shares) (any_twice shares) once) most.1)
