-- Collecting, move after move.
-- Assumes nothing.
use Rattle.std.specs.Prelude.{Bool, true, false, List, ◌≡◌, refl, ℕ, suc, ◌-◌, ◌<◌, Option, Some, None, Result, Ok, Err}
use Rattle.std.proofs.Common.{true≢false, sym, ap, ◌∙◌, arith}
use Rattle.pcl.specs.Sides.{move_call}
use Rattle.words.specs.declared.answers.Refusal.{Refusal}
use Rattle.board.specs.declared.answers.CollectError.{CollectError}
use Rattle.board.specs.Collect.{Outcome, moved_then, collect_from}

abbrev pub is_done : Result (Option ℕ) Refusal → Bool
is_done (Ok None) = true
is_done (Ok (Some address)) = false
is_done (Err refusal) = false

abbrev pub went_on : Result (Option ℕ) Refusal → Bool
went_on (Err Refusal.BadState) = false
went_on (Err Refusal.NoUnit) = false
went_on answer = is_done answer

abbrev pub stopped_at : Result (Option ℕ) Refusal → ℕ → Result ℕ CollectError
stopped_at (Ok None) done = Ok done
stopped_at (Ok (Some address)) done = Err (CollectError.Missing address)
stopped_at (Err Refusal.Nothing) done = Ok done
stopped_at (Err refusal) done = Err (CollectError.Link refusal)

abbrev pub stopped_by : Result (Option ℕ) Refusal → ℕ → Result ℕ CollectError
stopped_by (Err Refusal.BadState) done = Err (CollectError.Link Refusal.BadState)
stopped_by (Err Refusal.NoUnit) done = Err (CollectError.Link Refusal.NoUnit)
stopped_by answer done = stopped_at answer done

module _ (done : ℕ) (next : List ℕ → List ℕ → Outcome) where
  then_next : (call : Result (Option ℕ) Refusal) (cells memory : List ℕ) → went_on call ≡ true → next cells memory ≡ moved_then done next (call, cells, memory)
  then_next (Ok None) cells memory e = refl
  then_next (Ok (Some address)) cells memory e = absurd (true≢false (sym e))
  then_next (Err Refusal.NoUnit) cells memory e = absurd (true≢false (sym e))
  then_next (Err Refusal.NoRegister) cells memory e = absurd (true≢false (sym e))
  then_next (Err Refusal.ByteRefused) cells memory e = absurd (true≢false (sym e))
  then_next (Err Refusal.Nothing) cells memory e = absurd (true≢false (sym e))
  then_next (Err Refusal.BadSetUp) cells memory e = absurd (true≢false (sym e))
  then_next (Err Refusal.BadMask) cells memory e = absurd (true≢false (sym e))
  then_next (Err Refusal.NoRoom) cells memory e = absurd (true≢false (sym e))
  then_next (Err Refusal.BadState) cells memory e = absurd (true≢false (sym e))

  then_stop : (call : Result (Option ℕ) Refusal) (cells memory : List ℕ) → went_on call ≡ false
      → ◌≡◌ {A = Outcome} (stopped_by call done, cells, memory) (moved_then done next (call, cells, memory))
  then_stop (Ok None) cells memory e = absurd (true≢false e)
  then_stop (Ok (Some address)) cells memory e = refl
  then_stop (Err Refusal.NoUnit) cells memory e = refl
  then_stop (Err Refusal.NoRegister) cells memory e = refl
  then_stop (Err Refusal.ByteRefused) cells memory e = refl
  then_stop (Err Refusal.Nothing) cells memory e = refl
  then_stop (Err Refusal.BadSetUp) cells memory e = refl
  then_stop (Err Refusal.BadMask) cells memory e = refl
  then_stop (Err Refusal.NoRoom) cells memory e = refl
  then_stop (Err Refusal.BadState) cells memory e = refl

-- the next of the moves that are left
a_move_left : (left done unit : ℕ) (cells memory : List ℕ) (k : ℕ) → left ≡ suc k
    → collect_from left done unit cells memory ≡ moved_then done (collect_from k (suc done) unit) (move_call cells memory unit 1)
unfolding collect_from
a_move_left left done unit cells memory k e = rw e

-- what a move makes of those that are left
pub moved : (unit : ℕ) (cells memory : List ℕ) (done : ℕ) → done < 65 → {call : Result (Option ℕ) Refusal} {cells' memory' : List ℕ}
    → ◌≡◌ {A = Result (Option ℕ) Refusal × List ℕ × List ℕ} (call, cells', memory') (move_call cells memory unit 1) → (answer : Result (Option ℕ) Refusal) → call ≡ answer
    → moved_then done (collect_from (65 - suc done) (suc done) unit) (answer, cells', memory') ≡ collect_from (65 - done) done unit cells memory
moved unit cells memory done more {cells' = cells'} {memory' = memory'} e answer is =
    ap (λ (a : Result (Option ℕ) Refusal). moved_then done (collect_from (65 - suc done) (suc done) unit) (a, cells', memory')) (sym is)
    ∙ ap (moved_then done (collect_from (65 - suc done) (suc done) unit)) e
    ∙ sym (a_move_left (65 - done) done unit cells memory (65 - suc done) (omega arith))

-- any refusal of a move but 4 is the link's
other : (done : ℕ) (next : List ℕ → List ℕ → Outcome) (cells memory : List ℕ) (refusal : Refusal) → (refusal ≡ Refusal.Nothing → ⊥)
    → ◌≡◌ {A = Outcome} (Err (CollectError.Link refusal), cells, memory) (moved_then done next (Err refusal, cells, memory))
other done next cells memory Refusal.NoUnit h = refl
other done next cells memory Refusal.NoRegister h = refl
other done next cells memory Refusal.ByteRefused h = refl
other done next cells memory Refusal.Nothing h = absurd (h refl)
other done next cells memory Refusal.BadSetUp h = refl
other done next cells memory Refusal.BadMask h = refl
other done next cells memory Refusal.NoRoom h = refl
other done next cells memory Refusal.BadState h = refl

pub refused : (unit : ℕ) (cells memory : List ℕ) (done : ℕ) → done < 65 → {call : Result (Option ℕ) Refusal} {cells' memory' : List ℕ}
    → ◌≡◌ {A = Result (Option ℕ) Refusal × List ℕ × List ℕ} (call, cells', memory') (move_call cells memory unit 1) → (refusal : Refusal)
    → call ≡ Err refusal → (refusal ≡ Refusal.Nothing → ⊥)
    → ◌≡◌ {A = Outcome} (Err (CollectError.Link refusal), cells', memory') (collect_from (65 - done) done unit cells memory)
refused unit cells memory done more {cells' = cells'} {memory' = memory'} e refusal is h =
    other done (collect_from (65 - suc done) (suc done) unit) cells' memory' refusal h ∙ moved unit cells memory done more e (Err refusal) is

module _ (unit : ℕ) (cells memory : List ℕ) (done : ℕ) (more : done < 65) {call : Result (Option ℕ) Refusal} {cells' memory' : List ℕ}
    (made : ◌≡◌ {A = Result (Option ℕ) Refusal × List ℕ × List ℕ} (call, cells', memory') (move_call cells memory unit 1)) where
  pub goes_on : went_on call ≡ true → collect_from (65 - suc done) (suc done) unit cells' memory' ≡ collect_from (65 - done) done unit cells memory
  goes_on e = then_next done (collect_from (65 - suc done) (suc done) unit) call cells' memory' e ∙ moved unit cells memory done more made call refl

  pub stops : {answer : Result ℕ CollectError} → answer ≡ stopped_by call done → went_on call ≡ false
      → ◌≡◌ {A = Outcome} (answer, cells', memory') (collect_from (65 - done) done unit cells memory)
  stops e f =
      ap (λ (a : Result ℕ CollectError). (a, cells', memory')) e
      ∙ then_stop done (collect_from (65 - suc done) (suc done) unit) call cells' memory' f
      ∙ moved unit cells memory done more made call refl

pub none_left : (left done unit : ℕ) (cells memory : List ℕ) → left ≡ 0
    → ◌≡◌ {A = Outcome} (Ok done, cells, memory) (collect_from left done unit cells memory)
unfolding collect_from
none_left left done unit cells memory e = rw e
