-- What the bytes at hand tell does not depend on where the input was cut; a record lies in the bytes that told it.
-- Assumes nothing.
use Rattle.std.specs.Prelude.{Bool, true, false, List, ◌++◌, ◌≡◌, refl, ℕ, ◌+◌, ◌-◌, ◌*◌, ◌≤◌, ◌<◌, eqb, ltb, length, take, drop}
use Rattle.std.proofs.Common.{subst, arith, eqb-true, ltb-true, ltb-false, le-ltb, ne_eqb, length-append, length-drop, length-take-le}
use Rattle.std.proofs.Math.ListN.{get_or-append}
use Rattle.std.proofs.lemmas.List.{take-append-le, drop-append-le}
use Rattle.laws.specs.Pick.{pick, by, either}
use Rattle.script.specs.Records.{byte_at, word_at, sized, call_of, next_record}
use Rattle.script.specs.declared.calls.Call.{Call}
use Rattle.script.specs.declared.calls.Found.{Found}

-- what is told stands, whatever comes after it
pub stands : (rest more : List ℕ) (ended : Bool) → (next_record rest false ≡ Found.More → ⊥)
    → next_record rest false ≡ next_record (rest ++ more) ended
unfolding next_record
stands rest more ended told =
    let long : length (rest ++ more) ≡ length rest + length more = length-append rest more in
    by (eqb (length rest) 0) (λ none. absurd (told (rw none)))
    (λ some. by (ltb (length rest) 2) (λ short. absurd (told (rw (some, short))))
    (λ enough.
    let two : 2 ≤ length rest = ltb-false _ _ enough in
    let some' : length (rest ++ more) ≡ 0 → ⊥ = λ (e : length (rest ++ more) ≡ 0). omega arith in
    let enough' : 2 ≤ length (rest ++ more) = omega arith in
    let first : byte_at (rest ++ more) 0 ≡ byte_at rest 0 = get_or-append rest more 0 0 (omega arith) in
    let second : byte_at (rest ++ more) 1 ≡ byte_at rest 1 = get_or-append rest more 0 1 (omega arith) in
    rw (some, enough, ne_eqb _ _ some', le-ltb _ _ enough', first, second)
    (by (ltb 768 (word_at rest 0)) (λ long. rw long)
    (λ proper. by (ltb (length rest - 2) (word_at rest 0)) (λ cut. absurd (told (rw (some, enough, proper, cut))))
    (λ whole.
    let fits : word_at rest 0 ≤ length rest - 2 = ltb-false _ _ whole in
    let fits' : word_at rest 0 ≤ length (rest ++ more) - 2 = omega arith in
    let part : word_at rest 0 ≤ length (drop 2 rest) = rw length-drop fits in
    rw (proper, whole, le-ltb _ _ fits', drop-append-le 2 rest more, take-append-le (word_at rest 0) (drop 2 rest) more))))))

-- ---- what holds of a `stop` and of a call of any kind and length holds of every record

-- behind its count a fit has three bytes for each unit
abbrev pub Holds : Call → ℕ → Type 0
Holds (Call.Fit count) wanted = 3 + 3 * count ≡ wanted
Holds (Call.WordWrite unit offset word) wanted = Unit {0}
Holds (Call.WordRead unit offset) wanted = Unit {0}
Holds (Call.Slice mask parity) wanted = Unit {0}
Holds (Call.Move unit side) wanted = Unit {0}
Holds (Call.Period unit) wanted = Unit {0}
Holds (Call.Reset unit) wanted = Unit {0}
Holds (Call.ByteWrite unit offset byte) wanted = Unit {0}
Holds (Call.Level unit side) wanted = Unit {0}

module _ (P : Found → Type 0) where
  one : (t : Bool) {a b : Found} → P a → P b → P (pick t a b)
  one true p q = p
  one false p q = q

  every : (bytes : List ℕ)
      → ((wanted : ℕ) (call : Call) → (byte_at bytes 2 < 256 → wanted ≤ 768) → Holds call wanted → P (sized bytes wanted call))
      → P Found.Stop → P (call_of bytes)
  unfolding call_of
  every bytes call stop =
      let kind = word_at bytes 0 in
      one (eqb kind 1) (call (3 + 3 * byte_at bytes 2) _ (λ h. omega arith) refl)
      (one (eqb kind 2) (call 6 _ (λ h. omega arith) tt)
      (one (eqb kind 3) (call 4 _ (λ h. omega arith) tt)
      (one (eqb kind 4) (call 5 _ (λ h. omega arith) tt)
      (one (eqb kind 5) (call 4 _ (λ h. omega arith) tt)
      (one (eqb kind 6) (call 3 _ (λ h. omega arith) tt)
      (one (eqb kind 7) (call 3 _ (λ h. omega arith) tt)
      (one (eqb kind 8) (call 5 _ (λ h. omega arith) tt) (one (eqb kind 9) (call 4 _ (λ h. omega arith) tt) stop))))))))

-- where the input has ended, it is always told
abbrev Told : Found → Type 0
Told found = found ≡ Found.More → ⊥

call_told : (call : Call) (n : ℕ) → Told (Found.Call call n)
call_told call n e = let z : ◌≡◌ {A = ℕ} 0 1 = cc in omega arith

stop_told : Told Found.Stop
stop_told e = let z : ◌≡◌ {A = ℕ} 0 1 = cc in omega arith

end_told : Told Found.End
end_told e = let z : ◌≡◌ {A = ℕ} 0 1 = cc in omega arith

pub at_end_told : (rest : List ℕ) → Told (next_record rest true)
unfolding next_record
at_end_told rest =
    one Told (eqb (length rest) 0) end_told
    (one Told (ltb (length rest) 2) stop_told
    (one Told (ltb 768 (word_at rest 0)) stop_told
    (one Told (ltb (length rest - 2) (word_at rest 0)) stop_told
    (every Told (take (word_at rest 0) (drop 2 rest))
    (λ wanted call b h. one Told (eqb (length (take (word_at rest 0) (drop 2 rest))) wanted) (call_told call _) stop_told) stop_told))))

-- no call has a length above 768
pub longest : (bytes : List ℕ) → byte_at bytes 2 < 256 → 768 < length bytes → call_of bytes ≡ Found.Stop
longest bytes byte long =
    every (λ (found : Found). found ≡ Found.Stop) bytes
    (λ wanted call most h.
    let short : wanted ≤ 768 = most byte in
    rw (ne_eqb (length bytes) wanted (λ (e : length bytes ≡ wanted). omega arith)))
    refl

-- ---- of bytes at hand: a call's record lies in them, and more are wanted only below 770

abbrev pub Within : ℕ → Found → Type 0
Within room (Found.Call call n) = (2 ≤ n) × (n ≤ room) × Holds call (n - 2)
Within room Found.More = room < 770
Within room Found.End = Unit {0}
Within room Found.Stop = Unit {0}

pub within : (rest : List ℕ) (ended : Bool) → Within (length rest) (next_record rest ended)
unfolding next_record
within rest ended =
    let P = Within (length rest) in
    either P (eqb (length rest) 0)
    (λ none. let e : length rest ≡ 0 = eqb-true _ _ none in one P ended tt (omega arith))
    (λ some. either P (ltb (length rest) 2)
    (λ short. let h : length rest < 2 = ltb-true _ _ short in one P ended tt (omega arith))
    (λ enough. either P (ltb 768 (word_at rest 0)) (λ long. tt)
    (λ proper. either P (ltb (length rest - 2) (word_at rest 0))
    (λ cut.
    let h : length rest - 2 < word_at rest 0 = ltb-true _ _ cut in
    let k : word_at rest 0 ≤ 768 = ltb-false _ _ proper in
    one P ended tt (omega arith))
    (λ whole.
    let two : 2 ≤ length rest = ltb-false _ _ enough in
    let h : word_at rest 0 ≤ length rest - 2 = ltb-false _ _ whole in
    let bytes = take (word_at rest 0) (drop 2 rest) in
    let long : length bytes ≡ word_at rest 0 = length-take-le (word_at rest 0) (drop 2 rest) (rw length-drop h) in
    every P bytes
    (λ wanted call most holds. either P (eqb (length bytes) wanted)
    (λ same. let e : length bytes ≡ wanted = eqb-true _ _ same in
    (omega arith, omega arith, subst (Holds call) (omega arith) holds))
    (λ other. tt)) tt))))
