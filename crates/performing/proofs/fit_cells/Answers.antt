-- The set-up stands at the front of the numbers, and goes to the call.
use mathlib.Core.Path.{sym, ap, ◌∙◌}
use Prim.Native.Nat.{◌*◌, ◌≤◌}
use native.Mathlib.Omega.{arith}
use lib.ListN.{drop}
use lib.Seq.{length-take-le}
use Rattle.pcl.specs.Link.{fit_call}
use Rattle.script.specs.Laws.SetUpLaws.{set_up_fits, set_up_stands}
use Rattle.performing.proofs.fit_cells.Goals as goal

pub slice_bounds-numbers-end : goal.slice_bounds-numbers-end
slice_bounds-numbers-end c =
    let a = c.args in
    let room : 4 * a.count ≤ 1020 = omega arith in
    set_up_fits (drop 5 a.bytes.now) a.count _ room c.put_set_up-held.ensures

pub slice_bounds-fit-end : goal.slice_bounds-fit-end
slice_bounds-fit-end c =
    let a = c.args in
    let room : 4 * a.count ≤ 1020 = omega arith in
    sym (length-take-le _ _ (set_up_fits (drop 5 a.bytes.now) a.count _ room c.put_set_up-held.ensures))

pub returns : goal.returns
returns c =
    let a = c.args in
    let room : 4 * a.count ≤ 1020 = omega arith in
    c.fit.ensures
    ∙ ap (fit_call a.cells.now) (set_up_stands (drop 5 a.bytes.now) a.count _ room c.put_set_up-held.ensures)
