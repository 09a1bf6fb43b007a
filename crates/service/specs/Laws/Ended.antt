-- A row of moves that ends: what it leaves is what so many single moves leave, each of them answered 0, and the next finds nothing to move.
-- Its count of words is what the silo has more or fewer, and the address that was missing is the one that the last of them hands up.
-- Assumes nothing.
use Rattle.std.specs.Prelude.{true, ◌⊎◌, ◌≡◌, Result, Ok, Err, Option, Some, None, unwrap_or}
use Rattle.std.proofs.Common.{⊎_elim, ◌∙◌, not-suc-le-zero, arith}
use Rattle.std.proofs.Math.Path.{refl, ap, sym}
use Prim.Native.Nat.{ℕ, zero, suc, ◌+◌, ◌<◌}
use Rattle.moves.specs.Laws.Missing.{Short}
use Rattle.moves.specs.Laws.Nothing.{has_moved}
use Rattle.words.specs.Answers.{move_value}
use Rattle.words.specs.declared.answers.Refusal.{Refusal}
use Rattle.service.specs.Transfers.{moved_then, moves_from}
use Rattle.service.specs.declared.transfers.Transfer.{Transfer}

-- what is left after so many moves
unfoldable pub after : {A : Type 0} → (A → Result (Option ℕ) Refusal × A) → ℕ → A → A
after move zero a = a
after move (suc n) a = after move n (move a).1

-- the words of a transfer, and the address that was missing, 0 where none was
abbrev pub words_of : Result Transfer Refusal → ℕ
words_of (Err refusal) = 0
words_of (Ok transfer) = transfer.words

abbrev pub missing_of : Result Transfer Refusal → ℕ
missing_of (Err refusal) = 0
missing_of (Ok transfer) = unwrap_or transfer.missing 0

-- a row that has begun, and whose address is one that a move hands up: even, of 18 bits and not 0
abbrev pub Begun : Result Transfer Refusal → Type 0
Begun (Err refusal) = ⊥
Begun (Ok transfer) = Short (Ok transfer.missing)

module _ {A : Type 0} (move : A → Result (Option ℕ) Refusal × A) (with : A → ℕ) (room : A → ℕ) where
  -- nothing to move, and nothing changes
  abbrev pub Stuck : A → Type 0
  Stuck a = move a ≡ (Err Refusal.Nothing, a)

  -- of the outcome of a row of moves after so many words
  pub record Ended (words : ℕ) (a : A) (o : Result Transfer Refusal × A) : Type 0 where
    pub moves : ℕ
    pub same : o.1 ≡ after move moves a
    pub each : (i : ℕ) → i < moves → has_moved (move (after move i a)).0 ≡ true
    -- each but the last finds its address, and the last hands up the address of the row
    pub found : (i : ℕ) → suc i < moves → move_value (move (after move i a)).0 ≡ 0
    pub handed : (i : ℕ) → suc i ≡ moves → move_value (move (after move i a)).0 ≡ missing_of o.0
    pub quiet : moves ≡ 0 → missing_of o.0 ≡ 0
    pub last : Stuck o.1
    pub went : words + room a ≡ words_of o.0 + room o.1
    pub begun : Begun o.0

  no_move : (words : ℕ) (a b : A) → b ≡ a → Stuck b → Ended words a (Ok (record { words = words; missing = None }), b)
  unfolding after
  no_move words a b e stuck =
      record {
        moves = 0;
        same = e;
        each = λ i h. absurd (not-suc-le-zero h);
        found = λ i h. absurd (not-suc-le-zero h);
        handed = λ i h. absurd (omega (arith, h));
        quiet = λ h. refl;
        last = stuck;
        went = ap (λ (x : A). words + room x) (sym e);
        begun = tt;
      }

  -- a single move, after which there is nothing to move
  one_each : (a : A) → has_moved (move a).0 ≡ true → (i : ℕ) → i < 1 → has_moved (move (after move i a)).0 ≡ true
  unfolding after
  one_each a moved zero h = moved
  one_each a moved (suc i) h = absurd (omega (arith, h))

  one_handed : (a : A) (value : ℕ) → move_value (move a).0 ≡ value → (i : ℕ) → suc i ≡ 1 → move_value (move (after move i a)).0 ≡ value
  unfolding after
  one_handed a value e zero h = e
  one_handed a value e (suc i) h = absurd (omega (arith, h))

  one_move : (words : ℕ) (a b : A) {answer : Result (Option ℕ) Refusal} (t : Result Transfer Refusal) → move a ≡ (answer, b) → has_moved answer ≡ true → move_value answer ≡ missing_of t
      → Stuck b → words + room a ≡ words_of t + room b → Begun t → Ended words a (t, b)
  unfolding after
  one_move words a b t e moved value stuck went begun =
      record {
        moves = 1;
        same = ap (λ (m : Result (Option ℕ) Refusal × A). m.1) (sym e);
        each = one_each a (ap (λ (m : Result (Option ℕ) Refusal × A). has_moved m.0) e ∙ moved);
        found = λ i h. absurd (omega (arith, h));
        handed = one_handed a (missing_of t) (ap (λ (m : Result (Option ℕ) Refusal × A). move_value m.0) e ∙ value);
        quiet = λ h. absurd (omega (arith, h));
        last = stuck;
        went = went;
        begun = begun;
      }

  -- a row, and a move that is done before it
  module _ (a b : A) (next : (move a).1 ≡ b) where
    then_each : (n : ℕ) → has_moved (move a).0 ≡ true → ((i : ℕ) → i < n → has_moved (move (after move i b)).0 ≡ true)
        → (i : ℕ) → i < suc n → has_moved (move (after move i a)).0 ≡ true
    unfolding after
    then_each n moved rest zero h = moved
    then_each n moved rest (suc i) h = rw next (rest i (omega arith))

    then_found : (n : ℕ) → move_value (move a).0 ≡ 0 → ((i : ℕ) → suc i < n → move_value (move (after move i b)).0 ≡ 0)
        → (i : ℕ) → suc i < suc n → move_value (move (after move i a)).0 ≡ 0
    unfolding after
    then_found n first rest zero h = first
    then_found n first rest (suc i) h = rw next (rest i (omega arith))

    then_handed : (n value : ℕ) → move_value (move a).0 ≡ 0 → (n ≡ 0 → value ≡ 0) → ((i : ℕ) → suc i ≡ n → move_value (move (after move i b)).0 ≡ value)
        → (i : ℕ) → suc i ≡ suc n → move_value (move (after move i a)).0 ≡ value
    unfolding after
    then_handed n value first quiet rest zero h = first ∙ sym (quiet (omega arith))
    then_handed n value first quiet rest (suc i) h = rw next (rest i (omega arith))

  then_row : (words : ℕ) (a b : A) {o : Result Transfer Refusal × A} → move a ≡ (Ok None, b) → Ended (words + with a) b o → words + room a ≡ words + with a + room b
      → Ended words a o
  unfolding after
  then_row words a b {o = o} e r less =
      let next : (move a).1 ≡ b = ap (λ (m : Result (Option ℕ) Refusal × A). m.1) e in
      let none : move_value (move a).0 ≡ 0 = ap (λ (m : Result (Option ℕ) Refusal × A). move_value m.0) e in
      record {
        moves = suc r.moves;
        same = r.same ∙ ap (after move r.moves) (sym next);
        each = then_each a b next r.moves (ap (λ (m : Result (Option ℕ) Refusal × A). has_moved m.0) e) r.each;
        found = then_found a b next r.moves none r.found;
        handed = then_handed a b next r.moves (missing_of o.0) none r.quiet r.handed;
        quiet = λ h. absurd (omega (arith, h));
        last = r.last;
        went = less ∙ r.went;
        begun = r.begun;
      }

  stuck_row : (left words : ℕ) (a : A) → Stuck a → moves_from move with left words a ≡ (Ok (record { words = words; missing = None }), a)
  unfolding moves_from
  stuck_row zero words a stuck = refl
  stuck_row (suc left) words a stuck = ap (moved_then words (moves_from move with left (words + with a))) stuck

  -- what is asked of single moves, for a row of them to end: a done one leaves room for a word less, unless it is the last and moved none
  pub record Falls (Good : A → Type 0) : Type 0 where
    pub nothing : (a b : A) (refusal : Refusal) → Good a → move a ≡ (Err refusal, b) → Stuck a × (b ≡ a)
    pub missing : (a b : A) (address : ℕ) → Good a → move a ≡ (Ok (Some address), b) → Stuck b × Short (Ok (Some address)) × (room a ≡ room b)
    pub done : (a b : A) → Good a → move a ≡ (Ok None, b) → (Stuck b × (with a ≡ 0) × (room a ≡ room b)) ⊎ (Good b × (with a ≡ 1) × (room a ≡ room b + 1))

  module _ {Good : A → Type 0} (falls : Falls Good) where
    turned : (left words : ℕ) (a : A) → Good a → room a < suc left
        → ((b : A) (w : ℕ) → Good b → room b < left → Ended w b (moves_from move with left w b))
        → (m : Result (Option ℕ) Refusal × A) → move a ≡ m → Ended words a (moved_then words (moves_from move with left (words + with a)) m)
    turned left words a good h rest (Err refusal, b) e =
        let stays = falls.nothing a b refusal good e in no_move words a b stays.1 (rw stays.1 stays.0)
    turned left words a good h rest (Ok (Some address), b) e =
        let stopped = falls.missing a b address good e in
        one_move words a b (Ok (record { words = words; missing = Some address })) e refl refl stopped.0 (omega (arith, stopped.2)) stopped.1
    turned left words a good h rest (Ok None, b) e =
        ⊎_elim
        (λ stopped.
        rw (stuck_row left (words + with a) b stopped.0)
        (one_move words a b (Ok (record { words = (words + with a); missing = None })) e refl refl stopped.0 (omega (arith, stopped.1, stopped.2)) tt))
        (λ goes.
        then_row words a b e (rest b (words + with a) goes.0 (omega (arith, goes.1, goes.2))) (omega (arith, goes.1, goes.2)))
        (falls.done a b good e)

    pub ended : (left words : ℕ) (a : A) → Good a → room a < left → Ended words a (moves_from move with left words a)
    unfolding moves_from
    ended zero words a good h = absurd (not-suc-le-zero h)
    ended (suc left) words a good h = turned left words a good h (λ b w g k. ended left w b g k) (move a) refl
