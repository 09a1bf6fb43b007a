-- What a line shows is document 01's number of the call's answer, and its values.
-- Assumes nothing.
use Rattle.std.specs.Prelude.{true, false, List, ◌≡◌, refl, ℕ, ◌+◌, ◌*◌, ◌<◌, Bool, Result, Ok, Err, Option, Some, None}
use Rattle.std.proofs.Common.{arith, ne_eqb}
use Rattle.bus.specs.declared.slice.Given.{Given}
use Rattle.pcl.specs.Face.{slice_face, move_face}
use Rattle.pcl.specs.Link.{slice_call}
use Rattle.pcl.specs.Numbers.{read_call_number, read_call_word, read_packed, level_number, level_value, level_packed, slice_packed, given_value, move_packed}
use Rattle.pcl.specs.Sides.{move_call}
use Rattle.pcl.specs.Laws.Bounds.{narrow, short}
use Rattle.pcl.specs.Laws.Narrow.{NarrowCall, ShortCall}
use Rattle.pcl.specs.Laws.Values.{given_shows}
use Rattle.pcl.specs.Laws.Refused.{refused_le}
use Rattle.words.specs.Answers.{number_of}
use Rattle.words.specs.declared.answers.Refusal.{Refusal}
use Rattle.script.specs.declared.lines.Line.{Line}
use Rattle.performing.specs.Perform.{number_in, value_in, read_line, level_line, slice_line, move_line}

-- a number below 65,536 and the value over it
number : (n v : ℕ) → n < 65536 → number_in (n + v * 65536) ≡ n
number n v h = omega arith

value : (n v : ℕ) → n < 65536 → value_in (n + v * 65536) ≡ v
value n v h = omega arith

-- and a number alone, which a refusal is
alone : (refusal : Refusal) → number_in (number_of refusal + 0 * 65536) ≡ number_of refusal
alone refusal = number (number_of refusal) 0 (omega (arith, refused_le refusal))

none : (refusal : Refusal) → value_in (number_of refusal + 0 * 65536) ≡ 0
none refusal = value (number_of refusal) 0 (omega (arith, refused_le refusal))

pub read_line_lem : (c : Result ℕ Refusal) → read_line (read_packed c) ≡ Line.Read (read_call_number c) (read_call_word c)
read_line_lem (Ok w) = rw (number 0 w (omega arith), value 0 w (omega arith))
read_line_lem (Err refusal) = rw (alone refusal, none refusal)

pub level_line_lem : (c : Result Bool Refusal) → level_line (level_packed c) ≡ Line.Level (level_number c) (level_value c)
level_line_lem (Ok true) = refl
level_line_lem (Ok false) = refl
level_line_lem (Err refusal) = rw (alone refusal, none refusal)

-- a move that missed an address says it, and another its number alone
abbrev pub move_says : Result (Option ℕ) Refusal → Line
move_says (Ok None) = Line.Call 5 0
move_says (Ok (Some address)) = Line.Missing address
move_says (Err refusal) = Line.Call 5 (number_of refusal)

move_says_lem : (c : Result (Option ℕ) Refusal) → ShortCall c → move_line (move_packed c) ≡ move_says c
move_says_lem (Ok None) fits = refl
move_says_lem (Ok (Some address)) (some, few, even) =
    rw (value 0 address (omega arith), ne_eqb address 0 (λ (z : address ≡ 0). omega arith))
move_says_lem (Err refusal) fits = rw (none refusal, alone refusal)

-- of every move call, whatever it was lent: an address is never 0
pub move_line_lem : (cells memory : List ℕ) (unit side : ℕ) → move_line (move_face cells memory unit side).0 ≡ move_says (move_call cells memory unit side).0
move_line_lem cells memory unit side = move_says_lem (move_call cells memory unit side).0 (short cells memory unit side)

-- a slice that was passed says its address, A and B
abbrev pub slice_says : Result (Option Given) Refusal → Line
slice_says (Ok None) = Line.Slice 8 0 0 0
slice_says (Ok (Some g)) = Line.Slice 0 g.address g.codes.a g.codes.b
slice_says (Err refusal) = Line.Slice (number_of refusal) 0 0 0

says : (c : Result (Option Given) Refusal) → NarrowCall c → slice_line (slice_packed c) ≡ slice_says c
says (Ok None) fits = refl
says (Ok (Some g)) fits =
    let v = given_value g in
    let shows = given_shows g fits in
    rw (number 0 v (omega arith), value 0 v (omega arith), shows.address, shows.a, shows.b)
says (Err refusal) fits = rw (alone refusal, none refusal)

-- of every slice call, whatever it was lent: they fit their bits
pub slice_line_lem : (cells : List ℕ) (mask parity : ℕ) → slice_line (slice_face cells mask parity).0 ≡ slice_says (slice_call cells mask parity).0
slice_line_lem cells mask parity = says (slice_call cells mask parity).0 (narrow cells mask parity)
