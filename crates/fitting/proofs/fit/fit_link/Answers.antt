-- The units, then the header, which puts the state in range, and then its index.
use mathlib.Core.List.{List, [], ◌∷◌}
use mathlib.Core.Path.{◌≡◌, ap, sym, ◌∙◌}
use Prim.Native.Nat.{ℕ}
use native.Mathlib.Omega.{arith}
use lib.ListN.{length}
use Rattle.cells.specs.Index.{put_index}
use Rattle.cells.specs.Laws.FitLaws.{fit_in_range}
use Rattle.codec.specs.Window.{splice}
use Rattle.fitting.specs.Fit.{units_fitted}
use Rattle.fitting.specs.SetUp.{count_of}
use Rattle.fitting.specs.Laws.SetUpLaws.{good_says}
use Rattle.fitting.proofs.fit.fit_link.Goals as goal

pub overflow_cast-setup : goal.overflow_cast-setup
overflow_cast-setup c = omega (arith, (good_says c.args.setup.now c.requires.setup_value).most)

pub set_header-requires : goal.set_header-requires
set_header-requires c = omega (arith, c.requires.setup_in_bounds, c.fit_units.auto.cells)

pub fill_index-requires : goal.fill_index-requires
fill_index-requires c =
    let n = count_of c.args.setup.now in
    let units = units_fitted n c.args.setup.now c.args.cells.now in
    let same : length units ≡ length c.args.cells.now = ap length (sym c.fit_units.ensures) ∙ c.fit_units.auto.cells in
    rw (c.set_header.ensures, c.fit_units.ensures)
    (fit_in_range units n (good_says c.args.setup.now c.requires.setup_value).most (omega (arith, c.requires.setup_in_bounds, same)))

pub returns : goal.returns
returns c =
    let a = c.args in
    c.fill_index.ensures
    ∙ ap put_index (c.set_header.ensures ∙ ap (λ (l : List ℕ). splice l 0 (count_of a.setup.now ∷ 0 ∷ [])) c.fit_units.ensures)
