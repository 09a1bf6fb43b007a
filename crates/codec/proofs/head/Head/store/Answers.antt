-- Nine words, one after the other.
use mathlib.Core.Path.{◌≡◌}
use Prim.Native.Nat.{suc, ◌+◌}
use native.Mathlib.Omega.{arith}
use Rattle.std.proofs.lemmas.List.Edits.{sets-eq}
use Rattle.codec.specs.Head.{cells_of}
use Rattle.codec.proofs.head.Head.store.Goals as goal

pub returns : goal.returns
returns c =
    let a = c.args in
    let at = a.at in
    let one : at + 1 ≡ suc at = omega arith in
    let two : at + 2 ≡ suc (suc at) = omega arith in
    let three : at + 3 ≡ suc (suc (suc at)) = omega arith in
    let four : at + 4 ≡ suc (suc (suc (suc at))) = omega arith in
    let five : at + 5 ≡ suc (suc (suc (suc (suc at)))) = omega arith in
    let six : at + 6 ≡ suc (suc (suc (suc (suc (suc at))))) = omega arith in
    let seven : at + 7 ≡ suc (suc (suc (suc (suc (suc (suc at)))))) = omega arith in
    let eight : at + 8 ≡ suc (suc (suc (suc (suc (suc (suc (suc at))))))) = omega arith in
    rw (one, two, three, four, five, six, seven, eight) (sets-eq (cells_of a.self) a.cells.now at (omega arith))
