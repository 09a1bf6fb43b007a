-- Readings handed in as numbers and given as numbers: each is the one that was handed in, and a 0 was a 0.
-- Assumes nothing.
use Rattle.std.specs.Prelude.{List, map, ◌≡◌, ℕ, ◌<◌, ltb, length, get_or, drop}
use Rattle.std.proofs.Common.{ap, ◌∙◌, arith}
use Rattle.std.proofs.lemmas.List.{length-map}
use Rattle.std.proofs.Math.ListN.{get_or-append, get_or-map}
use Rattle.laws.specs.Pick.{by}
use Rattle.readings.specs.Messages.{lent, over}
use Rattle.readings.specs.Readings.{lent_reading, number_of}

-- ---- one

pub zero_read : (n : ℕ) → number_of (lent_reading n) ≡ 0 → n ≡ 0
zero_read n e = by (ltb n 65536) (λ t. rw t at e) (λ f. absurd (let z : ◌≡◌ {A = ℕ} 65536 0 = rw f at e in omega arith))

-- ---- each of them

pub given_at : (numbers room : List ℕ) (i : ℕ) → i < length numbers
    → get_or (over (map number_of (lent numbers)) room) i 0 ≡ number_of (lent_reading (get_or numbers i 0))
given_at numbers room i h =
    let long : length (map number_of (lent numbers)) ≡ length (lent numbers) = length-map (lent numbers) number_of in
    let all : length (lent numbers) ≡ length numbers = length-map numbers lent_reading in
    get_or-append (map number_of (lent numbers)) (drop (length (map number_of (lent numbers))) room) 0 i (omega arith)
    ∙ get_or-map number_of (lent numbers) i (lent_reading 0)
    ∙ ap number_of (get_or-map lent_reading numbers i 0)
