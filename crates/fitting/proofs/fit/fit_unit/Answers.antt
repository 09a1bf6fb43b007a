-- The block of zeros, and then four groups stored, one after the other; none changes the count of cells.
use mathlib.Core.List.{List}
use mathlib.Core.Path.{◌≡◌, ap, ◌∙◌}
use Prim.Native.Nat.{ℕ}
use lib.Dec.{lit<}
use native.Mathlib.Omega.{arith}
use Rattle.cells.specs.Fitted.{put_transmitter, put_receiver, put_master, blank, unit_fitted}
use Rattle.cells.specs.Layout.{unit_place, enc_unit}
use Rattle.cells.specs.Laws.FittedLaws.{still_fitted}
use Rattle.codec.specs.Window.{splice}
use Rattle.master.specs.declared.side.Master.{Master}
use Rattle.master.specs.Laws.Laws as M
use Rattle.receiver.specs.declared.side.Receiver.{Receiver}
use Rattle.receiver.specs.Laws.Keeps as R
use Rattle.transmitter.specs.declared.side.Transmitter.{Transmitter}
use Rattle.transmitter.specs.Laws.Keeps as T
use Rattle.fitting.proofs.fit.fit_unit.Goals as goal

-- the three sides that are put
record Sides : Type 0 where
  sender : Transmitter
  hearer : Receiver
  section : Master

same_sides : {t t' : Transmitter} {r r' : Receiver} {m m' : Master} → t ≡ t' → r ≡ r' → m ≡ m'
    → ◌≡◌ {A = Sides} (record { sender = t; hearer = r; section = m }) (record { sender = t'; hearer = r'; section = m' })
same_sides t r m = rw (t, r, m)

pub store_unit-requires : goal.store_unit-requires
store_unit-requires c = (omega (arith, c.blank_unit.auto.cells, c.requires.fitted.room), c.requires.addresses.0, c.requires.addresses.2, c.requires.memory.0, c.requires.memory.1)

pub put-requires-clause-fitted : goal.put-requires-clause-fitted
put-requires-clause-fitted c = still_fitted (c.store_unit.auto.cells ∙ c.blank_unit.auto.cells) c.requires.fitted

pub put-requires-clause-within : goal.put-requires-clause-within
put-requires-clause-within c = rw c.start.ensures (T.within_initial (lit< tt))

pub put-requires-2-clause-fitted : goal.put-requires-2-clause-fitted
put-requires-2-clause-fitted c = still_fitted (c.put.auto.cells ∙ c.store_unit.auto.cells ∙ c.blank_unit.auto.cells) c.requires.fitted

pub put-requires-2-clause-within : goal.put-requires-2-clause-within
put-requires-2-clause-within c = rw c.start-2.ensures (R.within_initial (lit< tt))

pub put-requires-3-clause-fitted : goal.put-requires-3-clause-fitted
put-requires-3-clause-fitted c = still_fitted (c.put-2.auto.cells ∙ c.put.auto.cells ∙ c.store_unit.auto.cells ∙ c.blank_unit.auto.cells) c.requires.fitted

pub put-requires-3-clause-within : goal.put-requires-3-clause-within
put-requires-3-clause-within c = rw c.initial.ensures (M.within_initial c.args.numbers.switch c.requires.switch.0 c.requires.switch.1)

pub shape_of-cells : goal.shape_of-cells
shape_of-cells c = c.put-3.auto.cells ∙ c.put-2.auto.cells ∙ c.put.auto.cells ∙ c.store_unit.auto.cells ∙ c.blank_unit.auto.cells

pub returns : goal.returns
unfolding unit_fitted
returns c =
    let a = c.args in
    let own = enc_unit a.numbers.transmitter a.numbers.receiver a.numbers.memory in
    c.put-3.ensures
    ∙ ap (λ (l : List ℕ). put_master l a.unit c.initial.result)
    (c.put-2.ensures
    ∙ ap (λ (l : List ℕ). put_receiver l a.unit c.start-2.result)
    (c.put.ensures
    ∙ ap (λ (l : List ℕ). put_transmitter l a.unit c.start.result)
    (c.store_unit.ensures ∙ ap (λ (l : List ℕ). splice l (unit_place a.unit) own) c.blank_unit.ensures)))
    ∙ ap (λ (s : Sides). put_master (put_receiver (put_transmitter (splice (blank a.cells.now a.unit) (unit_place a.unit) own) a.unit s.sender) a.unit s.hearer) a.unit s.section)
    (same_sides c.start.ensures c.start-2.ensures c.initial.ensures)
