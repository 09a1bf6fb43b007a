-- How soon a sender's own slices come where it is served at least once in any L slices.
-- Assumes nothing.
use Rattle.std.specs.Prelude.{List, [], ◌∷◌, ◌++◌, ◌≡◌, refl, ℕ, zero, suc, ◌+◌, ◌*◌, ◌≤◌, ◌<◌, length, take, drop}
use Rattle.std.proofs.Common.{ap, mul-suc, arith, take-append-drop, take-add}
use Rattle.promise.specs.Kinds.{Kind, own, other, quiet, owns, slots}

-- of any L slices in a row one is its own
abbrev pub Fair : ℕ → List Kind → Type 0
Fair L ks = (i : ℕ) → i + L ≤ length ks → 0 < owns (take L (drop i ks))

pub owns_append : (a b : List Kind) → owns (a ++ b) ≡ owns a + owns b
owns_append [] b = omega arith
owns_append (own ∷ a) b = omega (arith, owns_append a b)
owns_append (other ∷ a) b = owns_append a b
owns_append (quiet ∷ a) b = owns_append a b

pub owns_slots : (ks : List Kind) → owns (slots ks) ≡ owns ks
owns_slots [] = refl
owns_slots (own ∷ ks) = ap suc (owns_slots ks)
owns_slots (other ∷ ks) = owns_slots ks
owns_slots (quiet ∷ ks) = owns_slots ks

-- the k-th own slice is among the first L * k
pub within : (L : ℕ) (ks : List Kind) → Fair L ks → (k : ℕ) → L * k ≤ length ks → k ≤ owns (take (L * k) ks)
within L ks fair zero h = omega arith
within L ks fair (suc k) h =
    let l = rw mul-suc at h in
    rw (mul-suc, take-add, owns_append) (omega (arith, fair (L * k) l, within L ks fair k (omega arith)))

pub reached : (L : ℕ) (ks : List Kind) → Fair L ks → (k : ℕ) → L * k ≤ length ks → k ≤ owns ks
reached L ks fair k h =
    omega (arith, within L ks fair k h, owns_append (take (L * k) ks) (drop (L * k) ks), ap owns (take-append-drop (L * k) ks))
