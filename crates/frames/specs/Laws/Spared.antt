-- What a write at a fitted unit leaves as it was: every side of another unit, and of its own those that the offset does not name; and
-- who is master, where it is another unit or the write spares TMMR.
-- Assumes nothing.
use Rattle.std.specs.Prelude.{Bool, true, false, ◌&&◌, ◌⊎◌, ◌≡◌, refl, ℕ, ◌+◌, ◌<◌, eqb, ltb}
use Rattle.std.proofs.Common.{true≢false, ⊎_elim, sym, ap, ◌∙◌, arith, eqb-true, ltb-true, ltb-false, ne_eqb}
use Rattle.std.proofs.lemmas.Bool.{eqb-false}
use Rattle.accesses.specs.Masters.{mastership_of, holder_after}
use Rattle.laws.specs.Pick.{either}
use Rattle.laws.specs.Laws.Both.{left_of}
use Rattle.master.specs.Section.{master_written}
use Rattle.master.specs.Writing as M
use Rattle.master.specs.declared.registers.Written as MD
use Rattle.master.specs.declared.side.Mastership.{Mastership}
use Rattle.receiver.specs.declared.side.Receiver.{Receiver}
use Rattle.transmitter.specs.declared.side.Transmitter.{Transmitter}
use Rattle.transmitter_registers.specs.Writing as T
use Rattle.frames.specs.Laws.Resets.{initialised_on, released_other}
use Rattle.frames.specs.Laws.Sides.{Sides, replaced_same, with_transmitter, with_receiver}
use Rattle.frames.specs.Laws.Writes.{master_on, written_on, byte_on}

-- offsets below 16 are the transmitter's, but for TMMR's two
abbrev pub SparesTransmitter : ℕ → Type 0
SparesTransmitter offset = offset < 16 → (offset ≡ 10) ⊎ (offset ≡ 11)

-- the others are the receiver's
abbrev pub SparesReceiver : ℕ → Type 0
SparesReceiver offset = offset < 16

-- neither TMMR nor a TX INIT
pub record SparesMaster (offset value : ℕ) : Type 0 where
  pub low : offset ≡ 10 → ⊥
  pub high : offset ≡ 11 → ⊥
  pub start : eqb offset 0 && T.initialises value ≡ false

-- another unit has MASTER
pub record HeldElsewhere (holder unit : ℕ) : Type 0 where
  pub held : holder ≡ 0 → ⊥
  pub other : holder ≡ unit + 1 → ⊥

pub held_elsewhere : (holder unit m : ℕ) → holder ≡ m + 1 → (m ≡ unit → ⊥) → HeldElsewhere holder unit
held_elsewhere holder unit m e apart = record { held = λ (q : holder ≡ 0). omega arith; other = λ (q : holder ≡ unit + 1). apart (omega arith) }

pub record Spared (s : Sides) (unit offset value : ℕ) (after : Sides) : Type 0 where
  pub transmitter : (k : ℕ) → (k ≡ unit → SparesTransmitter offset) → after.transmitter k ≡ s.transmitter k
  pub receiver : (k : ℕ) → (k ≡ unit → SparesReceiver offset) → after.receiver k ≡ s.receiver k
  pub master : (k : ℕ) → (k ≡ unit → SparesMaster offset value) → after.master k ≡ s.master k
  pub holder : SparesMaster offset value ⊎ HeldElsewhere s.holder unit → after.holder ≡ s.holder

-- ---- each kind of write

module _ (s : Sides) (unit offset value : ℕ) where
  init_spares : eqb offset 0 && T.initialises value ≡ true → Spared s unit offset value (initialised_on s unit)
  init_spares e =
      let zero = eqb-true offset 0 (left_of (eqb offset 0) (T.initialises value) e) in
      record {
        transmitter = λ k spares.
            replaced_same s.transmitter unit _ k
            (λ here. absurd (⊎_elim (λ (q : offset ≡ 10). omega arith) (λ (q : offset ≡ 11). omega arith) (spares here (omega arith))));
        receiver = λ k spares. refl;
        master = λ k spares. replaced_same s.master unit _ k (λ here. absurd (true≢false (sym e ∙ (spares here).start)));
        holder =
            ⊎_elim (λ (spares : SparesMaster offset value). absurd (true≢false (sym e ∙ spares.start)))
            (λ (elsewhere : HeldElsewhere s.holder unit). released_other s.holder unit elsewhere.other);
      }

  -- "Setting MASTER while any unit has it changes no MASTER bit"
  elsewhere_other : HeldElsewhere s.holder unit → mastership_of s.holder unit ≡ Mastership.Other
  elsewhere_other h = rw (ne_eqb s.holder 0 h.held, ne_eqb s.holder (unit + 1) h.other)

  master_spares : (SparesMaster offset value → ⊥) → (x : MD.Written) → (mastership_of s.holder unit ≡ Mastership.Other → x.mastership ≡ Mastership.Other)
      → Spared s unit offset value (master_on s unit x)
  master_spares at x keeps =
      record {
        transmitter = λ k spares. refl;
        receiver = λ k spares. refl;
        master = λ k spares. replaced_same s.master unit _ k (λ here. absurd (at (spares here)));
        holder =
            ⊎_elim (λ (spares : SparesMaster offset value). absurd (at spares))
            (λ (elsewhere : HeldElsewhere s.holder unit). ap (holder_after s.holder unit) (keeps (elsewhere_other elsewhere)));
      }

  transmitter_spares : (t : Transmitter) → offset < 16 → (offset ≡ 10 → ⊥) → (offset ≡ 11 → t ≡ s.transmitter unit)
      → Spared s unit offset value (with_transmitter s unit t)
  transmitter_spares t below low high =
      record {
        transmitter = λ k spares. replaced_same s.transmitter unit t k (λ here. ⊎_elim (λ q. absurd (low q)) high (spares here below));
        receiver = λ k spares. refl;
        master = λ k spares. refl;
        holder = λ spares. refl;
      }

  receiver_spares : (r : Receiver) → (offset < 16 → ⊥) → Spared s unit offset value (with_receiver s unit r)
  receiver_spares r past =
      record {
        transmitter = λ k spares. refl;
        receiver = λ k spares. replaced_same s.receiver unit r k (λ here. absurd (past (spares here)));
        master = λ k spares. refl;
        holder = λ spares. refl;
      }

-- ---- the writes

other_stays : (m : Mastership) (bit : Bool) → m ≡ Mastership.Other → master_written m bit ≡ Mastership.Other
other_stays m bit e = ap (λ (x : Mastership). master_written x bit) e

module _ (s : Sides) (unit offset : ℕ) where
  pub write_spares : (word : ℕ) → Spared s unit offset word (written_on s unit offset word)
  write_spares word =
      let P = Spared s unit offset word in
      let x = M.word_written (s.master unit) (mastership_of s.holder unit) (s.transmitter unit).modes.read_silo word in
      either P (eqb offset 0 && T.initialises word) (init_spares s unit offset word)
      (λ e. either P (eqb offset 10)
      (λ e. master_spares s unit offset word (λ spares. spares.low (eqb-true offset 10 e)) x (other_stays (mastership_of s.holder unit) _))
      (λ d. either P (ltb offset 16)
      (λ e. transmitter_spares s unit offset word (T.written (s.transmitter unit) offset word).side (ltb-true offset 16 e) (eqb-false offset 10 d)
      (λ q. ap (λ (n : ℕ). (T.written (s.transmitter unit) n word).side) q))
      (λ e. receiver_spares s unit offset word _ (λ below. omega (arith, ltb-false offset 16 e)))))

  pub byte_spares : (byte : ℕ) → Spared s unit offset byte (byte_on s unit offset byte)
  byte_spares byte =
      let P = Spared s unit offset byte in
      let low = M.low_byte_written (s.master unit) (mastership_of s.holder unit) (s.transmitter unit).modes.read_silo byte in
      let high = M.high_byte_written (s.master unit) (mastership_of s.holder unit) byte in
      either P (eqb offset 0 && T.initialises byte) (init_spares s unit offset byte)
      (λ e. either P (eqb offset 10)
      (λ e. master_spares s unit offset byte (λ spares. spares.low (eqb-true offset 10 e)) low (λ q. q))
      (λ d. either P (eqb offset 11)
      (λ e. master_spares s unit offset byte (λ spares. spares.high (eqb-true offset 11 e)) high (other_stays (mastership_of s.holder unit) _))
      (λ f. either P (ltb offset 16)
      (λ e. transmitter_spares s unit offset byte (T.byte_written (s.transmitter unit) offset byte).side (ltb-true offset 16 e) (eqb-false offset 10 d)
      (λ q. absurd (eqb-false offset 11 f q)))
      (λ e. receiver_spares s unit offset byte _ (λ below. omega (arith, ltb-false offset 16 e))))))
