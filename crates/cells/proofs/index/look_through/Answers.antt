-- After i turns the first i entries are found. What a search goes by below 2 is an address.
use borrow.Author.Tests.{lt-ltb}
use mathlib.Core.Bool.{Bool}
use mathlib.Core.List.{List, append-nil}
use mathlib.Core.Path.{◌≡◌, ap, sym, ◌∙◌}
use Prim.Native.Nat.{ℕ, ◌+◌, ◌/◌, ◌%◌, ◌≤◌, ◌<◌}
use native.Mathlib.Nat.{zero-add}
use native.Mathlib.Omega.{arith}
use lib.ListN.{length, length-set, get_or}
use lib.Seq.{take_all, drop-length}
use Rattle.std.specs.Prelude.{true, Option, unwrap_or}
use Rattle.codec.specs.Laws.WindowLaws.{copied}
use Rattle.laws.specs.Pick.{pick}
use Rattle.cells.specs.Index.{row, looked_through}
use Rattle.cells.specs.Layout.{address_in, count_in, secondary_in}
use Rattle.cells.specs.Ranges.{in_range}
use Rattle.cells.specs.Search.{number_in, named, first_found}
use Rattle.cells.proofs.Laws.IndexLaws.{length_row, row_at}
use Rattle.cells.specs.Laws.RangeLaws.{in_range_says}
use Rattle.cells.specs.Laws.SearchLaws.{at_most, named_number}
use Rattle.cells.proofs.index.look_through.Goals as goal

by_address : (cells : List ℕ) (i : ℕ) → i < 64 → first_found (number_in cells (i / 32)) (i % 32) (count_in cells) 0 ≡ get_or (row (looked_through cells) 64 0) (0 + i) 0
by_address cells i h =
    let k = i / 32 in
    let below : k < 2 = omega arith in
    ap (λ (t : Bool). first_found (λ (u : ℕ). pick t (address_in cells k u) (secondary_in cells u)) (i % 32) (count_in cells) 0) (lt-ltb k 2 below)
    ∙ sym (row_at (looked_through cells) 64 0 (0 + i) (omega arith) ∙ ap (looked_through cells) (zero-add (0 + i) ∙ zero-add i))

-- what is found is put as a number
entry : (cells : List ℕ) (i : ℕ) (found : Option ℕ) (n : ℕ) → in_range cells ≡ true → found ≡ named (first_found (number_in cells (i / 32)) (i % 32) (count_in cells) 0)
    → n ≡ unwrap_or found 16 → (n ≡ first_found (number_in cells (i / 32)) (i % 32) (count_in cells) 0) × (n ≤ 16)
entry cells i found n ok is e =
    let most = (in_range_says cells ok).most in
    let number = at_most (number_in cells (i / 32)) (i % 32) (count_in cells) 0 (omega arith) in
    let same = e ∙ ap (λ (o : Option ℕ). unwrap_or o 16) is ∙ named_number _ number in
    (same, omega (arith, same, number))

pub overflow_cast-entry : goal.overflow_cast-entry
overflow_cast-entry c = omega (arith, (entry c.args.cells.now c.loop-i.i _ _ c.requires.cells_value c.find.ensures.unit c.unwrap_or.ensures).1)

pub loop-i-preserved : goal.loop-i-preserved
loop-i-preserved c =
    let a = c.args in
    let l = c.loop-i in
    let full = row (looked_through a.cells.now) 64 0 in
    let long : length full ≡ 64 = length_row (looked_through a.cells.now) 64 0 in
    let h : 0 + l.i < length full = omega (arith, c.requires.entries_len) in
    let k : l.i < length a.entries.now = omega arith in (
      omega arith,
      simp length-set l.invariant.1,
      rw (l.invariant.2, (entry a.cells.now l.i _ _ c.requires.cells_value c.find.ensures.unit c.unwrap_or.ensures).0, by_address a.cells.now l.i (omega (arith, c.requires.entries_len))) (copied full 0 a.entries.now l.i h k),
    )

pub returns : goal.returns
returns c =
    let a = c.args in
    let l = c.loop-i in
    let full = row (looked_through a.cells.now) 64 0 in
    let e : l.i ≡ length a.entries.now = omega arith in
    let long : length full ≡ l.i = length_row (looked_through a.cells.now) 64 0 ∙ sym c.requires.entries_len ∙ sym e in
    l.invariant.2 ∙ rw (take_all l.i full (omega arith), e, drop-length, append-nil)
