-- A line, the cells and the memories, from what a call gave.
-- Assumes nothing.
use Rattle.std.proofs.Common.{List, ◌++◌, ◌≡◌, ap, ◌∙◌, ℕ, take, drop}
use Rattle.performing.specs.Perform.{Outcome, memory_place}
use Rattle.script.specs.declared.lines.Line.{Line}

-- a call that leaves the memories
pub told : {A : Type 0} {line : Line} {answer : A} {cells : List ℕ} (memories : List ℕ) (f : A → Line) (p : A × List ℕ)
    → line ≡ f answer → ◌≡◌ {A = A × List ℕ} (answer, cells) p → ◌≡◌ {A = Outcome} (line, cells, memories) (f p.0, p.1, memories)
told {A} {cells = cells} memories f p said e =
    ap (λ (l : Line). (l, cells, memories)) said ∙ ap (λ (q : A × List ℕ). (f q.0, q.1, memories)) e

-- the same, by what its line is otherwise
pub told_as : {A : Type 0} {line : Line} {answer : A} {cells : List ℕ} (memories : List ℕ) (f g : A → Line) (p : A × List ℕ)
    → line ≡ f answer → ◌≡◌ {A = A × List ℕ} (answer, cells) p → f p.0 ≡ g p.0
    → ◌≡◌ {A = Outcome} (line, cells, memories) (g p.0, p.1, memories)
told_as memories f g p said e same = told memories f p said e ∙ ap (λ (l : Line). (l, p.1, memories)) same

-- a move, which is lent one memory, n words of all
pub moved : {A : Type 0} {line : Line} {answer : A} {cells room : List ℕ} (unit n : ℕ) (memories : List ℕ) (f : A → Line)
    (call : ℕ → A × List ℕ × List ℕ) → n ≡ 64 → line ≡ f answer → ◌≡◌ {A = A × List ℕ × List ℕ} (answer, cells, room) (call n)
    → ◌≡◌ {A = Outcome} (line, cells, take (memory_place unit) memories ++ (room ++ drop n (drop (memory_place unit) memories)))
    (f (call 64).0, (call 64).1, take (memory_place unit) memories ++ ((call 64).2 ++ drop 64 (drop (memory_place unit) memories)))
moved {A} {line} {answer} {cells} {room} unit n memories f call whole said e =
    let place = memory_place unit in
    ap (λ (l : Line). (l, cells, take place memories ++ (room ++ drop n (drop place memories)))) said
    ∙ ap (λ (k : ℕ). (f answer, cells, take place memories ++ (room ++ drop k (drop place memories)))) whole
    ∙ ap (λ (q : A × List ℕ × List ℕ). (f q.0, q.1, take place memories ++ (q.2 ++ drop 64 (drop place memories)))) (e ∙ ap call whole)
