-- Document 01, The link: "Fit gives every side its initial state, memories unchanged."
-- Assumes nothing.
use Rattle.std.specs.Prelude.{List, [], ◌∷◌, ℕ, zero, suc}
use Rattle.cells.specs.Fitted.{unit_fitted}
use Rattle.cells.specs.Index.{put_index}
use Rattle.cells.specs.Layout.{enc_unit}
use Rattle.codec.specs.Window.{splice}
use Rattle.master.specs.Side as M
use Rattle.receiver.specs.Side as R
use Rattle.transmitter.specs.Side as T
use Rattle.fitting.specs.SetUp.{SENDS_AS, RECEIVES_AS, SWITCH, MEMORY, number_of, count_of}

-- one unit: its own numbers, and its sides as they start, with the serial 0: document 02, No. 6, "Only a new fit resets it, to 0"
abbrev pub fitted_as : List ℕ → ℕ → ℕ → ℕ → ℕ → ℕ → List ℕ
fitted_as cells unit transmitter receiver switch memory =
    unit_fitted cells unit (enc_unit transmitter receiver memory) (T.initial 0) (R.initial 0) (M.initial switch)

-- the first n units of a set-up
abbrev pub unit_of : List ℕ → List ℕ → ℕ → List ℕ
unit_of setup cells unit =
    fitted_as cells unit (number_of setup unit SENDS_AS) (number_of setup unit RECEIVES_AS) (number_of setup unit SWITCH) (number_of setup unit MEMORY)

unfoldable pub units_fitted : ℕ → List ℕ → List ℕ → List ℕ
units_fitted zero setup cells = cells
units_fitted (suc n) setup cells = unit_of setup (units_fitted n setup cells) n

-- all its units, and then the header: so many units, and nobody is master
abbrev pub headed : List ℕ → List ℕ → List ℕ
headed cells setup = splice (units_fitted (count_of setup) setup cells) 0 (count_of setup ∷ 0 ∷ [])

-- and the index: document 02, No. 8, "filled at fit"
abbrev pub fit : List ℕ → List ℕ → List ℕ
fit cells setup = put_index (headed cells setup)
