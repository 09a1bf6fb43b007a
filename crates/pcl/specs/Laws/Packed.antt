-- Packing, part by part: what a register gave, what a move gave, and what a slice gave. And a call for C: the number is the call's, packed, and all else is
-- as the call leaves it.
-- Assumes nothing.
use Rattle.std.specs.Prelude.{Bool, List, ◌≡◌, ℕ, ◌+◌, ◌*◌, Result, Option}
use Rattle.std.proofs.Common.{ap, ◌∙◌}
use Rattle.bus.specs.declared.slice.Given.{Given}
use Rattle.words.specs.Answers.{read_number, read_word, move_number, move_value}
use Rattle.words.specs.declared.answers.Refusal.{Refusal}
use Rattle.pcl.specs.Face.{packed, packed_move, packed_transfer}
use Rattle.pcl.specs.Numbers.{slot_number, given_value, slot_value, level_packed, move_packed, serial_packed, wants_packed, transfer_packed, transferred_number, transferred_value}
use Rattle.service.specs.declared.transfers.Transfer.{Transfer}

abbrev pub found_packed : Result ℕ Refusal → ℕ
found_packed r = read_number r + read_word r * 65536

abbrev pub moved_packed : Result (Option ℕ) Refusal → ℕ
moved_packed m = move_number m + move_value m * 65536

abbrev pub transferred_packed : Result Transfer Refusal → ℕ
transferred_packed t = transferred_number t + transferred_value t * 65536

abbrev pub given_packed : Given → ℕ
given_packed g = given_value g * 65536

abbrev pub slot_packed : Option Given → ℕ
slot_packed s = slot_number s + slot_value s * 65536

pub packed_as : {A : Type 0} (number : A → ℕ) {n : ℕ} {answer : A} {after : List ℕ} {outcome : A × List ℕ} → n ≡ number answer
    → ◌≡◌ {A = A × List ℕ} (answer, after) outcome → ◌≡◌ {A = ℕ × List ℕ} (n, after) (packed number outcome)
packed_as number {after = after} e f = ap (λ (k : ℕ). (k, after)) e ∙ ap (packed number) f

pub packed_move_lem : (n : ℕ) (answer : Result (Option ℕ) Refusal) (cells memory : List ℕ) (outcome : Result (Option ℕ) Refusal × List ℕ × List ℕ) → n ≡ move_packed answer
    → ◌≡◌ {A = Result (Option ℕ) Refusal × List ℕ × List ℕ} (answer, cells, memory) outcome → ◌≡◌ {A = ℕ × List ℕ × List ℕ} (n, cells, memory) (packed_move outcome)
packed_move_lem n answer cells memory outcome e f = rw e (ap packed_move f)

pub packed_transfer_lem : (n : ℕ) (answer : Result Transfer Refusal) (cells memory : List ℕ) (outcome : Result Transfer Refusal × List ℕ × List ℕ) → n ≡ transfer_packed answer
    → ◌≡◌ {A = Result Transfer Refusal × List ℕ × List ℕ} (answer, cells, memory) outcome → ◌≡◌ {A = ℕ × List ℕ × List ℕ} (n, cells, memory) (packed_transfer outcome)
packed_transfer_lem n answer cells memory outcome e f = rw e (ap packed_transfer f)

pub packed_level : {n : ℕ} {answer outcome : Result Bool Refusal} → n ≡ level_packed answer → answer ≡ outcome → n ≡ level_packed outcome
packed_level e f = e ∙ ap level_packed f

pub packed_serial : {n : ℕ} {answer outcome : Result ℕ Refusal} → n ≡ serial_packed answer → answer ≡ outcome → n ≡ serial_packed outcome
packed_serial e f = e ∙ ap serial_packed f

pub packed_wants : {n : ℕ} {answer outcome : Result ℕ Refusal} → n ≡ wants_packed answer → answer ≡ outcome → n ≡ wants_packed outcome
packed_wants e f = e ∙ ap wants_packed f

-- what `search faces` cites
pub ruleset faces = (tt, packed_as, packed_move_lem, packed_transfer_lem, packed_level, packed_serial, packed_wants)
