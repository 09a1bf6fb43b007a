-- What stands at the front of the numbers is the set-up, whatever comes after its bytes.
-- Assumes nothing.
use Rattle.std.specs.Prelude.{List, ◌++◌, ◌≡◌, refl, ℕ, zero, suc, ◌+◌, ◌*◌, ◌≤◌, ◌<◌, ltb, length, take, drop}
use Rattle.std.proofs.Common.{sym, ap, subst, ◌∙◌, arith, le-ltb, length-append, take_at}
use Rattle.std.proofs.Math.ListN.{get_or-append}
use Rattle.std.proofs.lemmas.List.Edits.{sets, sets-eq}
use Rattle.std.proofs.Math.Seq.{length-sets}
use Rattle.laws.specs.Pick.{by}
use Rattle.script.specs.Records.{byte_at}
use Rattle.script.specs.SetUps.{unit_at, units_at, set_up_of, set_up_put}

pub units_long : (n : ℕ) (bytes : List ℕ) → length (units_at n bytes) ≡ 4 * n
unfolding units_at
units_long zero bytes = refl
units_long (suc n) bytes = length-append (units_at n bytes) (unit_at bytes (3 * n)) ∙ rw (units_long n bytes) (omega arith)

-- a set-up whose bytes are there does not depend on what comes after them
byte_more : (bytes more : List ℕ) (k : ℕ) → k < length bytes → byte_at (bytes ++ more) k ≡ byte_at bytes k
byte_more bytes more k h = get_or-append bytes more 0 k h

units_more : (n : ℕ) (bytes more : List ℕ) → 3 * n ≤ length bytes → units_at n (bytes ++ more) ≡ units_at n bytes
unfolding units_at
units_more zero bytes more h = refl
units_more (suc n) bytes more h =
    rw (
      units_more n bytes more (omega arith),
      byte_more bytes more (3 * n) (omega arith),
      byte_more bytes more (3 * n + 1) (omega arith),
      byte_more bytes more (3 * n + 2) (omega arith),
    )

pub set_up_more : (bytes more : List ℕ) (count : ℕ) → 3 * count ≤ length bytes → set_up_of (bytes ++ more) count ≡ set_up_of bytes count
set_up_more bytes more count h =
    let longer : 3 * count ≤ length (bytes ++ more) = rw length-append (omega arith) in
    rw (le-ltb _ _ h, le-ltb _ _ longer) (units_more count bytes more h)

-- a run of stores from the front on stands at the front
pub front : (l vs : List ℕ) → length vs ≤ length l → take (length vs) (sets l 0 vs) ≡ vs
front l vs h =
    let k : 0 + length vs ≤ length l = omega arith in
    rw (sets-eq vs l 0 k) (take_at vs (drop (0 + length vs) l) (length vs) refl)

module _ (bytes : List ℕ) (count : ℕ) (numbers : List ℕ) (room : 4 * count ≤ length numbers) where
  fits : (set_up_put bytes count numbers).0 ≤ length (set_up_put bytes count numbers).1
  fits =
      by (ltb (length bytes) (3 * count)) (λ lacks. rw lacks (omega arith))
      (λ enough. rw (enough, le-ltb _ _ room, length-sets) room)

  stands : take (set_up_put bytes count numbers).0 (set_up_put bytes count numbers).1 ≡ set_up_of bytes count
  stands =
      by (ltb (length bytes) (3 * count)) (λ lacks. rw lacks)
      (λ enough.
      let h : length (units_at count bytes) ≤ length numbers = rw (units_long count bytes) room in
      rw (enough, le-ltb _ _ room, ← units_long count bytes) (front numbers (units_at count bytes) h))

  -- for what `put_set_up` answered and left
  pub set_up_fits : {held : ℕ} {after : List ℕ} → ◌≡◌ {A = ℕ × List ℕ} (held, after) (set_up_put bytes count numbers) → held ≤ length after
  set_up_fits e = subst (λ (p : ℕ × List ℕ). p.0 ≤ length p.1) (sym e) fits

  pub set_up_stands : {held : ℕ} {after : List ℕ} → ◌≡◌ {A = ℕ × List ℕ} (held, after) (set_up_put bytes count numbers)
      → take held after ≡ set_up_of bytes count
  set_up_stands e = ap (λ (p : ℕ × List ℕ). take p.0 p.1) e ∙ stands
