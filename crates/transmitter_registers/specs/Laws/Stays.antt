-- A read that removes nothing, and a write that changes nothing, leave a transmitter as it was.
-- Assumes nothing.
use Rattle.std.specs.Prelude.{Bool, true, false, not, ◌&&◌, ◌≡◌, refl, ℕ, eqb}
use Rattle.std.proofs.Common.{true≢false, sym, ap, subst, ◌∙◌, eqb-true}
use Rattle.laws.specs.Pick.{by, either}
use Rattle.laws.specs.Laws.Both.{both}
use Rattle.silos.specs.Silo.{is_empty}
use Rattle.transmitter.specs.declared.side.Transmitter.{Transmitter}
use Rattle.words.specs.Answers.{read_word}
use Rattle.words.specs.Halves.{even_below, with_half}
use Rattle.transmitter_registers.specs.Reading.{Reading, show_of, read_of, removes}
use Rattle.transmitter_registers.specs.Writing.{Written, written, byte_written, changes, changes_byte}

pub read_stays : (t : Transmitter) (offset : ℕ) → removes t offset ≡ false → (read_of t offset).side ≡ t
read_stays t offset e =
    let P : Reading → Type 0 = λ x. x.side ≡ t in
    either P (eqb offset 4)
    (λ a. either P (is_empty t.end.silo) (λ none. refl)
    (λ some. either P t.modes.read_silo (λ set. absurd (true≢false (sym (both (both a set) (ap not some)) ∙ e))) (λ unset. refl)))
    (λ a. refl)

pub not_removing : (t : Transmitter) (offset : ℕ) → (offset ≡ 4 → t.modes.read_silo ≡ false) → removes t offset ≡ false
not_removing t offset clear = by (eqb offset 4) (λ a. rw (a, clear (eqb-true offset 4 a))) (λ a. rw a)

pub written_stays : (t : Transmitter) (offset word : ℕ) → changes offset ≡ false → (written t offset word).side ≡ t
written_stays t offset word none =
    let P : Written → Type 0 = λ w. w.side ≡ t in
    let unnamed : (k : ℕ) → changes k ≡ true → eqb offset k ≡ true → ⊥ = λ k some here. true≢false (sym some ∙ subst (λ (n : ℕ). changes n ≡ false) (eqb-true offset k here) none) in
    either P (eqb offset 0) (λ e. absurd (unnamed 0 refl e))
    (λ e. either P (eqb offset 2) (λ e. absurd (unnamed 2 refl e))
    (λ e. either P (eqb offset 4) (λ e. absurd (unnamed 4 refl e))
    (λ e. either P (eqb offset 6) (λ e. absurd (unnamed 6 refl e))
    (λ e. either P (eqb offset 8) (λ e. absurd (unnamed 8 refl e))
    (λ e. either P (eqb offset 12) (λ e. refl) (λ e. refl))))))

pub byte_stays : (t : Transmitter) (offset byte : ℕ) → changes_byte offset ≡ false → (byte_written t offset byte).side ≡ t
byte_stays t offset byte e =
    either (λ (w : Written). w.side ≡ t) (eqb (even_below offset) 4) (λ a. refl)
    (λ a. written_stays t (even_below offset) (with_half (read_word (show_of t (even_below offset))) offset byte) (ap (λ (b : Bool). not b && changes (even_below offset)) (sym a) ∙ e))
