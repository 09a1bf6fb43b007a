-- Laws of an 18-bit address: its parts, the next one, that a word it names is in the memory, and that one which names none is outside it.
-- Assumes nothing.
use Rattle.std.specs.Prelude.{◌≡◌, ℕ, ◌+◌, ◌*◌, ◌/◌, ◌%◌, ◌^◌, ◌<◌, ◌≤◌, Bool, true, false, ◌≢◌, nat_lt, refl, Result}
use Rattle.std.proofs.Common.{arith, ltb-true, ltb-false, Ok, Err}
use Rattle.laws.specs.Pick.{pick, either}
use Rattle.words.specs.Address.{address_of, extension_of, low_of, next_address, place_of}

pub extension_of_lem : (e low : ℕ) → low < 2 ^ 16 → extension_of (address_of e low) ≡ e
extension_of_lem e low fits = omega arith

pub low_of_lem : (e low : ℕ) → low < 2 ^ 16 → low_of (address_of e low) ≡ low / 2 * 2
low_of_lem e low fits = omega arith

pub parts : (a : ℕ) → a % 2 ≡ 0 → address_of (extension_of a) (low_of a) ≡ a
parts a even = omega arith

pub next_inside : (a : ℕ) → a < 2 ^ 18 → a % 2 ≡ 0 → (a ≢ 262142) → next_address a ≡ a + 2
next_inside a fits even more = omega arith

pub next_of_last : next_address 262142 ≡ 0
next_of_last = refl

inside_is : (t : Bool) (word address at : ℕ) → pick t (Ok word) (Err address) ≡ Ok at → (t ≡ true) × (word ≡ at)
inside_is true word address at e = (refl, cc)
inside_is false word address at e = absurd (let z : ◌≡◌ {A = ℕ} 0 1 = cc in omega arith)

-- a word that an address names is in the memory
pub inside_lt : (a memory at : ℕ) → place_of a memory ≡ Ok at → at < memory
inside_lt a memory at e =
    let i = inside_is (nat_lt (a / 2) memory) (a / 2) _ at e in omega (arith, ltb-true (a / 2) memory i.0, i.1)

outside_is : (t : Bool) (word address tried : ℕ) → pick t (Ok word) (Err address) ≡ Err tried → (t ≡ false) × (tried ≡ address)
outside_is true word address tried e = absurd (let z : ◌≡◌ {A = ℕ} 0 1 = cc in omega arith)
outside_is false word address tried e = (refl, cc)

-- what is missing is the address itself, and the memory ends before the word that it names
pub outside_le : (a memory tried : ℕ) → place_of a memory ≡ Err tried → (tried ≡ a) × (memory ≤ tried / 2)
outside_le a memory tried e =
    let o = outside_is (nat_lt (a / 2) memory) (a / 2) a tried e in
    (o.1, omega (arith, ltb-false (a / 2) memory o.0, o.1))

-- and an address whose word the memory does not reach is missing
pub outside_at : (a memory : ℕ) → memory ≤ a / 2 → place_of a memory ≡ Err a
outside_at a memory beyond =
    either (λ (p : Result ℕ ℕ). p ≡ Err a) (nat_lt (a / 2) memory) (λ e. absurd (omega (arith, ltb-true (a / 2) memory e, beyond))) (λ e. refl)
