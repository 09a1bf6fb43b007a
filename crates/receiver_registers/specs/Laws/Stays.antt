-- A read that removes nothing, and a write that changes nothing, leave a receiver as it was.
-- Assumes nothing.
use Rattle.std.specs.Prelude.{true, false, not, ◌||◌, ◌≡◌, refl, ℕ, eqb}
use Rattle.std.proofs.Common.{true≢false, sym, ap, subst, ◌∙◌, eqb-true}
use Rattle.laws.specs.Pick.{by, either}
use Rattle.laws.specs.Laws.Both.{both}
use Rattle.silos.specs.Silo.{is_empty}
use Rattle.receiver.specs.declared.side.Receiver.{Receiver}
use Rattle.words.specs.Answers.{read_word}
use Rattle.words.specs.Halves.{even_below, with_half}
use Rattle.receiver_registers.specs.Reading.{Reading, show_of, read_of, removes}
use Rattle.receiver_registers.specs.Writing.{Written, written, byte_written, changes, changes_byte}

pub read_stays : (r : Receiver) (offset : ℕ) → removes r offset ≡ false → (read_of r offset).side ≡ r
read_stays r offset e =
    let P : Reading → Type 0 = λ x. x.side ≡ r in
    either P (eqb offset 20)
    (λ a. either P (is_empty r.end.silo) (λ none. refl)
    (λ some. either P r.modes.memory_requests (λ set. refl) (λ unset. absurd (true≢false (sym (both (both a (ap not unset)) (ap not some)) ∙ e)))))
    (λ a. refl)

pub not_removing : (r : Receiver) (offset : ℕ) → (offset ≡ 20 → r.modes.memory_requests ≡ true) → removes r offset ≡ false
not_removing r offset requests = by (eqb offset 20) (λ a. rw (a, requests (eqb-true offset 20 a))) (λ a. rw a)

pub written_stays : (r : Receiver) (offset word : ℕ) → changes offset ≡ false → (written r offset word).side ≡ r
written_stays r offset word none =
    let P : Written → Type 0 = λ w. w.side ≡ r in
    let unnamed : (k : ℕ) → changes k ≡ true → eqb offset k ≡ true → ⊥ = λ k some here. true≢false (sym some ∙ subst (λ (n : ℕ). changes n ≡ false) (eqb-true offset k here) none) in
    either P (eqb offset 16) (λ e. absurd (unnamed 16 refl e))
    (λ e. either P (eqb offset 18) (λ e. absurd (unnamed 18 refl e))
    (λ e. either P (eqb offset 22) (λ e. absurd (unnamed 22 refl e))
    (λ e. either P (eqb offset 24) (λ e. absurd (unnamed 24 refl e))
    (λ e. either P (eqb offset 20 || eqb offset 26) (λ e. refl) (λ e. refl)))))

pub byte_stays : (r : Receiver) (offset byte : ℕ) → changes_byte offset ≡ false → (byte_written r offset byte).side ≡ r
byte_stays r offset byte e =
    either (λ (w : Written). w.side ≡ r) (eqb (even_below offset) 20) (λ a. refl) (λ a. written_stays r (even_below offset) (with_half (read_word (show_of r (even_below offset))) offset byte) e)
