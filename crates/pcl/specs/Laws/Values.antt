-- A slice's number and value say all that it gave: with 0 there is an address, an A and a B, and the value has them.
-- Assumes nothing.
use Rattle.std.specs.Prelude.{List, ◌≡◌, refl, ℕ, ◌+◌, ◌*◌, ◌/◌, Some, None, Result, Ok, Err, Option}
use Rattle.std.proofs.Common.{ap, arith}
use Rattle.bus.specs.declared.slice.Given.{Given}
use Rattle.pcl.specs.Link.{slice_call}
use Rattle.pcl.specs.Numbers.{slice_number, slice_value, given_value, address_of, a_of, b_of}
use Rattle.pcl.specs.Laws.Narrow.{Narrow, NarrowCall}
use Rattle.pcl.specs.Laws.Bounds.{narrow}
use Rattle.pcl.specs.Laws.Refused.{refused_some}
use Rattle.words.specs.declared.answers.Refusal.{Refusal}

-- the value's parts are those of what was given
pub record Shows (g : Given) (value : ℕ) : Type 0 where
  pub address : address_of value ≡ g.address
  pub a : a_of value ≡ g.codes.a
  pub b : b_of value ≡ g.codes.b

pub given_shows : (g : Given) → Narrow g → Shows g (given_value g)
given_shows g fits =
    let v = given_value g in
    let codes : v / 32 ≡ g.codes.a + g.codes.b * 4 = omega (arith, fits) in
    let high : v / 128 ≡ g.codes.b = omega (arith, fits) in
    record { address = omega (arith, fits); a = rw codes (omega (arith, fits)); b = rw high (omega (arith, fits)) }

-- 0 is the number of what was given, and of nothing else
pub given_by : (c : Result (Option Given) Refusal) → slice_number c ≡ 0 → (g : Given) × (c ≡ Ok (Some g))
given_by (Ok (Some g)) e = (g, refl)
given_by (Ok None) e = absurd (omega (arith, e))
given_by (Err refusal) e = absurd (omega (arith, e, refused_some refusal))

-- of every slice call, whatever it was lent
pub slice_shows : (cells : List ℕ) (mask parity : ℕ) (g : Given)
    → (slice_call cells mask parity).0 ≡ Ok (Some g) → Shows g (slice_value (slice_call cells mask parity).0)
slice_shows cells mask parity g e =
    rw (ap slice_value e) (given_shows g (rw (ap NarrowCall e) at (narrow cells mask parity)))
