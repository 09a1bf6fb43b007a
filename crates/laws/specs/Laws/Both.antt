-- Two tests that both hold, and each of them.
-- Assumes nothing.
use Rattle.std.specs.Prelude.{Bool, true, false, ◌&&◌, ◌≡◌, refl}

pub both : {a b : Bool} → a ≡ true → b ≡ true → a && b ≡ true
both a b = rw (a, b)

pub left_of : (a b : Bool) → a && b ≡ true → a ≡ true
left_of true b e = refl
left_of false b e = e

pub right_of : (a b : Bool) → a && b ≡ true → b ≡ true
right_of true b e = e
right_of false true e = refl
right_of false false e = e

-- a test that the other follows from
pub implied : (a b : Bool) → (a ≡ true → b ≡ true) → a && b ≡ a
implied true b h = h refl
implied false b h = refl
