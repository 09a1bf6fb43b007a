-- A fit of a good set-up leaves the lent cells in range and their index filled, whatever they held before.
-- Assumes nothing.
use Rattle.std.specs.Prelude.{true, List, ◌≡◌, replicate}
use Rattle.std.proofs.Math.Path.{refl}
use Rattle.std.proofs.Common.{◌∙◌, arith, lit<}
use Prim.Native.Nat.{ℕ, zero, suc, ◌+◌, ◌≤◌}
use Rattle.std.proofs.Math.ListN.{length}
use Rattle.std.proofs.lemmas.List.{length-replicate}
use Rattle.cells.specs.Index.{Indexed}
use Rattle.cells.specs.Laws.FitLaws.{fit_in_range}
use Rattle.cells.proofs.Laws.IndexLaws.{filled, in_range_filled}
use Rattle.cells.specs.Fitted.{transmitter_cells, receiver_cells, master_cells, put_transmitter, put_receiver, blank, unit_fitted}
use Rattle.cells.specs.Layout.{unit_place, transmitter_place, receiver_place, master_place, enc_unit}
use Rattle.cells.specs.Ranges.{in_range}
use Rattle.codec.proofs.Laws.MasterLaws.{length_master}
use Rattle.codec.specs.Masters.{enc_master}
use Rattle.codec.proofs.Laws.ReceiverLaws.{length_receiver}
use Rattle.codec.specs.Receivers.{enc_receiver}
use Rattle.codec.proofs.Laws.TransmitterLaws.{length_transmitter}
use Rattle.codec.specs.Transmitters.{enc_transmitter}
use Rattle.codec.specs.Window.{splice}
use Rattle.codec.specs.Laws.WindowLaws.{length_splice, length_window}
use Rattle.fitting.specs.Fit.{unit_of, units_fitted, headed, fit}
use Rattle.fitting.specs.SetUp.{number_of, count_of, set_up_good}
use Rattle.fitting.specs.Laws.SetUpLaws.{UnitGood, good_says}
use Rattle.master.specs.Laws.Laws as ML
use Rattle.master.specs.Side as M
use Rattle.receiver.specs.Laws.Keeps as RK
use Rattle.receiver.specs.Side as R
use Rattle.transmitter.specs.Laws.Keeps as TK
use Rattle.transmitter.specs.Side as T

-- ---- one unit stored where it has room, its four groups one after the other

abbrev pub own_put : List ℕ → List ℕ → ℕ → List ℕ
own_put setup cells unit = splice (blank cells unit) (unit_place unit) (enc_unit (number_of setup unit 0) (number_of setup unit 1) (number_of setup unit 3))

abbrev pub transmitter_put : List ℕ → List ℕ → ℕ → List ℕ
transmitter_put setup cells unit = put_transmitter (own_put setup cells unit) unit (T.initial 0)

abbrev pub receiver_put : List ℕ → List ℕ → ℕ → List ℕ
receiver_put setup cells unit = put_receiver (transmitter_put setup cells unit) unit (R.initial 0)

-- the cells of each side, as they are put
abbrev pub sender : List ℕ → List ℕ → ℕ → List ℕ
sender setup cells unit = enc_transmitter (transmitter_cells (own_put setup cells unit) unit) (T.initial 0)

abbrev pub hearer : List ℕ → List ℕ → ℕ → List ℕ
hearer setup cells unit = enc_receiver (receiver_cells (transmitter_put setup cells unit) unit) (R.initial 0)

abbrev pub section : List ℕ → List ℕ → ℕ → List ℕ
section setup cells unit = enc_master (master_cells (receiver_put setup cells unit) unit) (M.initial (number_of setup unit 2))

module _ (setup cells : List ℕ) (unit : ℕ) (good : UnitGood setup unit) (room : unit_place unit + 202 ≤ length cells) where
  pub master_within : M.Within (M.initial (number_of setup unit 2))
  master_within = ML.within_initial (number_of setup unit 2) good.switch.0 (omega (arith, good.switch.1))

  -- each has its room
  pub blank_fits : unit_place unit + length (replicate {A = ℕ} 202 0) ≤ length cells
  blank_fits = omega (arith, length-replicate {A = ℕ} 202 0)

  pub blank_length : length (blank cells unit) ≡ length cells
  blank_length = length_splice cells (unit_place unit) (replicate 202 0) blank_fits

  pub own_fits : unit_place unit + 4 ≤ length (blank cells unit)
  own_fits = omega (arith, blank_length)

  own_length : length (own_put setup cells unit) ≡ length cells
  own_length =
      length_splice (blank cells unit) (unit_place unit) (enc_unit (number_of setup unit 0) (number_of setup unit 1) (number_of setup unit 3)) own_fits ∙ blank_length

  pub transmitter_long : length (sender setup cells unit) ≡ 73
  transmitter_long =
      length_transmitter (transmitter_cells (own_put setup cells unit) unit) (length_window (own_put setup cells unit) (transmitter_place unit) 73 (omega (arith, own_length))) (T.initial 0) (TK.within_initial (lit< tt))

  pub transmitter_fits : transmitter_place unit + length (sender setup cells unit) ≤ length (own_put setup cells unit)
  transmitter_fits = omega (arith, own_length, transmitter_long)

  transmitter_length : length (transmitter_put setup cells unit) ≡ length cells
  transmitter_length = length_splice (own_put setup cells unit) (transmitter_place unit) (sender setup cells unit) transmitter_fits ∙ own_length

  pub receiver_long : length (hearer setup cells unit) ≡ 73
  receiver_long =
      length_receiver (receiver_cells (transmitter_put setup cells unit) unit) (length_window (transmitter_put setup cells unit) (receiver_place unit) 73 (omega (arith, transmitter_length))) (R.initial 0) (RK.within_initial (lit< tt))

  pub receiver_fits : receiver_place unit + length (hearer setup cells unit) ≤ length (transmitter_put setup cells unit)
  receiver_fits = omega (arith, transmitter_length, receiver_long)

  receiver_length : length (receiver_put setup cells unit) ≡ length cells
  receiver_length = length_splice (transmitter_put setup cells unit) (receiver_place unit) (hearer setup cells unit) receiver_fits ∙ transmitter_length

  pub master_long : length (section setup cells unit) ≡ 52
  master_long =
      length_master (master_cells (receiver_put setup cells unit) unit) (length_window (receiver_put setup cells unit) (master_place unit) 52 (omega (arith, receiver_length))) (M.initial (number_of setup unit 2)) master_within

  pub master_fits : master_place unit + length (section setup cells unit) ≤ length (receiver_put setup cells unit)
  master_fits = omega (arith, receiver_length, master_long)

  one_length : length (unit_of setup cells unit) ≡ length cells
  unfolding unit_fitted
  one_length = length_splice (receiver_put setup cells unit) (master_place unit) (section setup cells unit) master_fits ∙ receiver_length

-- ---- all of them, and the header
module _ (setup cells : List ℕ) (ok : set_up_good setup ≡ true) (room : unit_place (count_of setup) ≤ length cells) where
  pub fitted_length : (n : ℕ) → n ≤ count_of setup → length (units_fitted n setup cells) ≡ length cells
  unfolding units_fitted
  fitted_length zero h = refl
  fitted_length (suc n) h =
      let before : length (units_fitted n setup cells) ≡ length cells = fitted_length n (omega arith) in
      one_length setup (units_fitted n setup cells) n ((good_says setup ok).units n h) (omega arith) ∙ before

  pub headed_ranged : in_range (headed cells setup) ≡ true
  headed_ranged =
      let count = count_of setup in
      let l : length (units_fitted count setup cells) ≡ length cells = fitted_length count (omega arith) in
      fit_in_range (units_fitted count setup cells) count (good_says setup ok).most (omega arith)

  pub fit_ranged : in_range (fit cells setup) ≡ true
  fit_ranged = in_range_filled (headed cells setup) headed_ranged

  -- document 02, No. 8: the index that it leaves says what the look-through says
  pub fit_indexed : Indexed (fit cells setup)
  fit_indexed = filled (headed cells setup) headed_ranged
