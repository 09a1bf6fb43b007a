-- A word or a byte written at a fitted unit: what the sides become.
-- Assumes nothing.
use Rattle.std.specs.Prelude.{true, ◌&&◌, List, ◌≡◌, refl, ℕ, ◌+◌, ◌^◌, ◌<◌, ◌≤◌, eqb, ltb, Result}
use Rattle.std.proofs.Common.{sym, ap, ◌∙◌, arith, eqb-true}
use Rattle.accesses.specs.Masters.{mastership_of, holder_after}
use Rattle.accesses.specs.Writing.{unit_written, unit_byte_written, after_master}
use Rattle.cells.specs.Fitted.{transmitter_of, receiver_of, master_of}
use Rattle.cells.specs.Ranges.{in_range}
use Rattle.cells.specs.Layout.{count_in, holder_in}
use Rattle.laws.specs.Pick.{pick, past, either}
use Rattle.master.specs.Laws.Laws.{within_word, within_high, within_loaded}
use Rattle.master.specs.Side as MS
use Rattle.master.specs.Writing as M
use Rattle.master.specs.declared.registers.Written as MD
use Rattle.master.specs.declared.side.Mastership.{Mastership}
use Rattle.receiver_registers.specs.Laws.Keeps as RK
use Rattle.receiver_registers.specs.Laws.Stays as RS
use Rattle.receiver_registers.specs.Writing as R
use Rattle.transmitter_registers.specs.Laws.Keeps as TK
use Rattle.transmitter_registers.specs.Laws.Stays as TS
use Rattle.transmitter_registers.specs.Writing as T
use Rattle.words.specs.declared.answers.Write.{Write}
use Rattle.words.specs.declared.answers.Refusal.{Refusal}
use Rattle.frames.specs.Laws.Leaves.{Leaves, At, stays_at, agrees, transmitter_within, receiver_within, master_within, alike}
use Rattle.frames.specs.Laws.Resets.{initialised_on, init_leaves}
use Rattle.frames.specs.Laws.Sides.{Sides, sides_of, replaced_same, with_holder, with_transmitter, with_receiver, with_master}
use Rattle.frames.specs.Laws.Stores.{transmitter_stored, receiver_stored, master_stored, transmitter_left, receiver_left, holder_stored}
use Rattle.frames.specs.Laws.Kept.{holder_most}

-- ---- on the sides, as `accesses` has them on the cells

abbrev pub master_on : Sides → ℕ → MD.Written → Sides
master_on s unit w = with_holder (with_master s unit w.side) (holder_after s.holder unit w.mastership)

abbrev pub written_on : Sides → ℕ → ℕ → ℕ → Sides
written_on s unit offset word =
    pick (eqb offset 0 && T.initialises word) (initialised_on s unit)
    (pick (eqb offset 10) (master_on s unit (M.word_written (s.master unit) (mastership_of s.holder unit) (s.transmitter unit).modes.read_silo word))
    (pick (ltb offset 16) (with_transmitter s unit (T.written (s.transmitter unit) offset word).side)
    (with_receiver s unit (R.written (s.receiver unit) offset word).side)))

abbrev pub byte_on : Sides → ℕ → ℕ → ℕ → Sides
byte_on s unit offset byte =
    pick (eqb offset 0 && T.initialises byte) (initialised_on s unit)
    (pick (eqb offset 10) (master_on s unit (M.low_byte_written (s.master unit) (mastership_of s.holder unit) (s.transmitter unit).modes.read_silo byte))
    (pick (eqb offset 11) (master_on s unit (M.high_byte_written (s.master unit) (mastership_of s.holder unit) byte))
    (pick (ltb offset 16) (with_transmitter s unit (T.byte_written (s.transmitter unit) offset byte).side)
    (with_receiver s unit (R.byte_written (s.receiver unit) offset byte).side))))

-- ---- the writes

-- nobody is master, or a fitted unit
after_most : (holder unit count : ℕ) → holder ≤ count → unit < count → (m : Mastership) → holder_after holder unit m ≤ count
after_most holder unit count most fitted Mastership.Nobody = omega arith
after_most holder unit count most fitted Mastership.Own = omega arith
after_most holder unit count most fitted Mastership.Other = most

-- who was master before is who is master where the mastership stays
same_holder : (holder unit : ℕ) → holder_after holder unit (mastership_of holder unit) ≡ holder
same_holder holder unit =
    let P : Mastership → Type 0 = λ m. holder_after holder unit m ≡ holder in
    either P (eqb holder 0) (λ e. sym (eqb-true holder 0 e)) (λ e. either P (eqb holder (unit + 1)) (λ e. sym (eqb-true holder (unit + 1) e)) (λ e. refl))

module _ (cells : List ℕ) (ok : in_range cells ≡ true) (unit : ℕ) (fitted : unit < count_in cells) where
  l : Leaves (At unit) cells cells (sides_of cells)
  l = stays_at (At unit) ok

  master_leaves : (x : MD.Written) → MS.Within x.side → Leaves (At unit) cells (after_master cells unit x).1 (master_on (sides_of cells) unit x)
  master_leaves x h =
      holder_stored (master_stored l unit fitted refl x.side h) (holder_after (holder_in cells) unit x.mastership)
      (after_most (holder_in cells) unit (count_in cells) (holder_most cells ok) fitted x.mastership)

  -- an address dropped
  dropped_leaves : (x : MD.Written) → x.side ≡ master_of cells unit → x.mastership ≡ mastership_of (holder_in cells) unit → Leaves (At unit) cells cells (master_on (sides_of cells) unit x)
  dropped_leaves x same own =
      agrees l
      (record {
        holder = sym (ap (holder_after (holder_in cells) unit) own ∙ same_holder (holder_in cells) unit);
        transmitter = λ k there. refl;
        receiver = λ k there. refl;
        master = λ k there. sym (replaced_same (master_of cells) unit x.side k (λ here. same));
      })

  module _ (offset word : ℕ) (fits : word < 2 ^ 16) where
    pub write_leaves : Leaves (At unit) cells (unit_written cells unit offset word).1 (written_on (sides_of cells) unit offset word)
    write_leaves =
        let t = transmitter_of cells unit in
        let r = receiver_of cells unit in
        let m = master_of cells unit in
        let own = mastership_of (holder_in cells) unit in
        let reading = t.modes.read_silo in
        let P : Result Write Refusal × List ℕ → Sides → Type 0 = λ p s. Leaves (At unit) cells p.1 s in
        alike P (eqb offset 0 && T.initialises word) (λ e. init_leaves cells ok unit fitted)
        (λ e. alike P (eqb offset 10)
        (λ e. master_leaves (M.word_written m own reading word) (within_word m (master_within l unit fitted) own reading word))
        (λ e. alike P (ltb offset 16)
        (λ e. either (λ p. P p (with_transmitter (sides_of cells) unit (T.written t offset word).side)) (T.changes offset)
        (λ some. transmitter_stored l unit fitted refl (T.written t offset word).side (TK.within_written t (transmitter_within l unit fitted) offset word fits))
        (λ none. transmitter_left l unit fitted (T.written t offset word).side (TS.written_stays t offset word none)))
        (λ e. either (λ p. P p (with_receiver (sides_of cells) unit (R.written r offset word).side)) (R.changes offset)
        (λ some. receiver_stored l unit fitted refl (R.written r offset word).side (RK.within_written r (receiver_within l unit fitted) offset word fits))
        (λ none. receiver_left l unit fitted (R.written r offset word).side (RS.written_stays r offset word none)))))

  module _ (offset byte : ℕ) (fits : byte < 2 ^ 8) where
    pub byte_leaves : Leaves (At unit) cells (unit_byte_written cells unit offset byte).1 (byte_on (sides_of cells) unit offset byte)
    byte_leaves =
        let t = transmitter_of cells unit in
        let r = receiver_of cells unit in
        let m = master_of cells unit in
        let own = mastership_of (holder_in cells) unit in
        let reading = t.modes.read_silo in
        let low = M.low_byte_written m own reading byte in
        let P : Result Write Refusal × List ℕ → Sides → Type 0 = λ p s. Leaves (At unit) cells p.1 s in
        alike P (eqb offset 0 && T.initialises byte) (λ e. init_leaves cells ok unit fitted)
        (λ e. alike P (eqb offset 10)
        (λ e. either (λ p. P p (master_on (sides_of cells) unit low)) (M.takes_address m reading)
        (λ some. master_leaves low (within_loaded m (master_within l unit fitted) reading byte))
        (λ none. dropped_leaves low (rw none) refl))
        (λ e. alike P (eqb offset 11) (λ e. master_leaves (M.high_byte_written m own byte) (within_high m (master_within l unit fitted) own byte))
        (λ e. alike P (ltb offset 16)
        (λ e. either (λ p. P p (with_transmitter (sides_of cells) unit (T.byte_written t offset byte).side)) (T.changes_byte offset)
        (λ some. transmitter_stored l unit fitted refl (T.byte_written t offset byte).side (TK.within_byte t (transmitter_within l unit fitted) offset byte fits))
        (λ none. transmitter_left l unit fitted (T.byte_written t offset byte).side (TS.byte_stays t offset byte none)))
        (λ e. either (λ p. P p (with_receiver (sides_of cells) unit (R.byte_written r offset byte).side)) (R.changes_byte offset)
        (λ some. receiver_stored l unit fitted refl (R.byte_written r offset byte).side (RK.within_byte r (receiver_within l unit fitted) offset byte fits))
        (λ none. receiver_left l unit fitted (R.byte_written r offset byte).side (RS.byte_stays r offset byte none))))))
