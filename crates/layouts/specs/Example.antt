-- Silos that go round: three words come to each, the last of them behind the ring's end, and the oldest is taken. So the cells of the two
-- layouts differ, and the next answers do not. The prover computes the runs.
-- Assumes nothing.
use Rattle.std.specs.Prelude.{List, [], ◌∷◌, ◌≡◌, refl, ℕ, ◌+◌, ◌*◌, ◌^◌, replicate, set, Ok}
use Rattle.cells.specs.Fitted.{transmitter_cells, master_cells, unit_fitted}
use Rattle.cells.specs.Index.{row}
use Rattle.cells.specs.Layout.{transmitter_place, master_place}
use Rattle.cells.specs.Ranges.{in_range}
use Rattle.codec.specs.Ends as E
use Rattle.codec.specs.Masters as M
use Rattle.codec.specs.Rings.{in_order, laid_from}
use Rattle.codec.specs.Window.{cell, window}
use Rattle.fitting.specs.Fit.{units_fitted}
use Rattle.fitting.specs.SetUp.{taken_by, units_good}
use Rattle.promise.specs.World.{World, Event, fit, write, write_byte, read, step, with_cells}
use Rattle.words.specs.Bits.TCR
use Rattle.layouts.specs.Answers.{Answer, to_read}
use Rattle.layouts.specs.Layouts.{Layout, going_round, shifting}
use Rattle.layouts.specs.Runs.{laid_in, run_in, answers_in}
use Rattle.layouts.specs.Shifting.{units_shifted}

-- a unit fitted over cells that hold anything
abbrev fitted : World
fitted = step (fit (1 ∷ 1 ∷ 2 ∷ 1 ∷ [])) (record { cells = replicate 268 7; memory = λ k. [] })

-- its two silos empty, and two cells before the end of their rings, as many words leave them
abbrev begun : World
begun = with_cells fitted (set (set fitted.cells (transmitter_place 0 + E.RING) 62) (master_place 0 + M.RING) 48)

-- 7, 9 and 11 come to unit 0's silo, and 3, 5 and 8 to its address silo; with RD SILO set a read takes the oldest of each
abbrev taken : List Event
taken =
    write 0 4 7
    ∷ write 0 4 9
    ∷ write 0 4 11
    ∷ write_byte 0 10 3
    ∷ write_byte 0 10 5
    ∷ write_byte 0 10 8
    ∷ write 0 0 (2 ^ TCR.RD_SILO)
    ∷ read 0 4
    ∷ read 0 10
    ∷ []

abbrev left : Layout → World
left layout = run_in layout taken (laid_in layout begun)

-- of each silo: start place and length, the ring's first two cells and its last two
abbrev data_silo : World → ℕ × List ℕ × List ℕ
data_silo w = let c = transmitter_cells w.cells 0 in (cell c E.RING, window c E.SILO 2, window c (E.SILO + 62) 2)

abbrev address_silo : World → ℕ × List ℕ × List ℕ
address_silo w = let c = master_cells w.cells 0 in (cell c M.RING, window c M.ADDRESSES 2, window c (M.ADDRESSES + 48) 2)

abbrev shown : World → (ℕ × List ℕ × List ℕ) × (ℕ × List ℕ × List ℕ)
shown w = (data_silo w, address_silo w)

-- both start at their last cell, go on at their first, and what was taken stands where it was
gone_round : shown (left going_round) ≡ ((63 + 2 * 64, 11 ∷ 0 ∷ [], 7 ∷ 9 ∷ []), (49 + 2 * 64, 8 ∷ 0 ∷ [], 3 ∷ 5 ∷ []))
unfolding unit_fitted units_fitted taken_by units_good in_range row in_order laid_from
gone_round = refl

-- what is left has shifted to the first cells
has_shifted : shown (left shifting) ≡ ((2 * 64, 9 ∷ 11 ∷ [], 0 ∷ 0 ∷ []), (2 * 64, 5 ∷ 8 ∷ [], 0 ∷ 0 ∷ []))
unfolding unit_fitted units_fitted taken_by units_good in_range row in_order laid_from units_shifted
has_shifted = refl

-- the next reads answer 9 and 11 in both
abbrev next : Layout → List Answer
next layout = answers_in layout (read 0 4 ∷ read 0 4 ∷ []) (left layout)

abbrev nine_eleven : List Answer
nine_eleven = to_read (Ok 9) ∷ to_read (Ok 11) ∷ []

next_round : next going_round ≡ nine_eleven
unfolding unit_fitted units_fitted taken_by units_good in_range row in_order laid_from
next_round = refl

next_shifted : next shifting ≡ nine_eleven
unfolding unit_fitted units_fitted taken_by units_good in_range row in_order laid_from units_shifted
next_shifted = refl
