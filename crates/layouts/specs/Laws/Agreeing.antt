-- Sides that agree below a count of units agree after every call at one of them, and after every slice.
-- Assumes nothing.
use Rattle.std.specs.Prelude.{◌&&◌, ◌≡◌, refl, ℕ, ◌<◌, eqb, ltb}
use Rattle.std.proofs.Common.{ap, ◌∙◌, ltb-true}
use Rattle.accesses.specs.Masters.{mastership_of, holder_after, released}
use Rattle.frames.specs.Laws.Leaves.{Agree, alike}
use Rattle.frames.specs.Laws.Masterless.{masterless_on}
use Rattle.frames.specs.Laws.Reads.{read_on}
use Rattle.frames.specs.Laws.Resets.{initialised_on, reset_on, period_on}
use Rattle.frames.specs.Laws.Sides.{Sides, replaced, with_holder, with_transmitter, with_receiver, with_master}
use Rattle.frames.specs.Laws.Writes.{master_on, written_on, byte_on}
use Rattle.master.specs.Section.{taken_over}
use Rattle.master.specs.Side as M
use Rattle.master.specs.Writing as MW
use Rattle.master.specs.declared.registers.Written as MD
use Rattle.master.specs.declared.side.Master.{Master}
use Rattle.receiver.specs.Periods as RP
use Rattle.receiver.specs.Side as R
use Rattle.receiver.specs.declared.side.Receiver.{Receiver}
use Rattle.transmitter.specs.Periods as TP
use Rattle.transmitter.specs.Down.{master_missed}
use Rattle.transmitter.specs.Side as T
use Rattle.transmitter.specs.declared.side.Transmitter.{Transmitter}
use Rattle.transmitter_registers.specs.Writing as TW

-- ---- one side replaced

replaced_agrees : {A : Type 0} (n : ℕ) (f g : ℕ → A) (unit : ℕ) {a b : A} → a ≡ b → ((k : ℕ) → k < n → f k ≡ g k) → (k : ℕ) → k < n → replaced f unit a k ≡ replaced g unit b k
replaced_agrees {A} n f g unit e same k there = alike (λ (x y : A). x ≡ y) (eqb k unit) (λ q. e) (λ q. same k there)

module _ (n : ℕ) {s o : Sides} (h : Agree n s o) where
  pub holder_agrees : {a b : ℕ} → a ≡ b → Agree n (with_holder s a) (with_holder o b)
  holder_agrees e = record { holder = e; transmitter = h.transmitter; receiver = h.receiver; master = h.master }

  pub transmitter_agrees : (unit : ℕ) {a b : Transmitter} → a ≡ b → Agree n (with_transmitter s unit a) (with_transmitter o unit b)
  transmitter_agrees unit e =
      record { holder = h.holder; transmitter = replaced_agrees n s.transmitter o.transmitter unit e h.transmitter; receiver = h.receiver; master = h.master }

  pub receiver_agrees : (unit : ℕ) {a b : Receiver} → a ≡ b → Agree n (with_receiver s unit a) (with_receiver o unit b)
  receiver_agrees unit e =
      record { holder = h.holder; transmitter = h.transmitter; receiver = replaced_agrees n s.receiver o.receiver unit e h.receiver; master = h.master }

  pub master_agrees : (unit : ℕ) {a b : Master} → a ≡ b → Agree n (with_master s unit a) (with_master o unit b)
  master_agrees unit e =
      record { holder = h.holder; transmitter = h.transmitter; receiver = h.receiver; master = replaced_agrees n s.master o.master unit e h.master }

-- ---- the calls at a unit

module _ (n : ℕ) {s o : Sides} (h : Agree n s o) (unit : ℕ) (there : unit < n) where
  t : s.transmitter unit ≡ o.transmitter unit
  t = h.transmitter unit there

  r : s.receiver unit ≡ o.receiver unit
  r = h.receiver unit there

  m : s.master unit ≡ o.master unit
  m = h.master unit there

  section_agrees : (f : Sides → MD.Written) → f s ≡ f o → Agree n (master_on s unit (f s)) (master_on o unit (f o))
  section_agrees f e =
      holder_agrees n (master_agrees n h unit (ap (λ (x : MD.Written). x.side) e))
      (ap (λ (x : MD.Written). holder_after s.holder unit x.mastership) e ∙ ap (λ (k : ℕ). holder_after k unit (f o).mastership) h.holder)

  pub initialised_agrees : Agree n (initialised_on s unit) (initialised_on o unit)
  initialised_agrees =
      transmitter_agrees n (holder_agrees n (master_agrees n h unit (ap M.initialised m)) (ap (λ (x : ℕ). released x unit) h.holder)) unit (ap T.initialised t)

  pub reset_agrees : Agree n (reset_on s unit) (reset_on o unit)
  reset_agrees = receiver_agrees n initialised_agrees unit (ap R.initialised r)

  pub period_agrees : Agree n (period_on s unit) (period_on o unit)
  period_agrees = receiver_agrees n (transmitter_agrees n h unit (ap TP.period_passed t)) unit (ap RP.period_passed r)

  pub written_agrees : (offset word : ℕ) → Agree n (written_on s unit offset word) (written_on o unit offset word)
  written_agrees offset word =
      alike (Agree n) (eqb offset 0 && TW.initialises word) (λ e. initialised_agrees)
      (λ e. alike (Agree n) (eqb offset 10)
      (λ e. section_agrees (λ (x : Sides). MW.word_written (x.master unit) (mastership_of x.holder unit) (x.transmitter unit).modes.read_silo word) (rw (m, h.holder, t)))
      (λ e. alike (Agree n) (ltb offset 16) (λ e. transmitter_agrees n h unit (rw t)) (λ e. receiver_agrees n h unit (rw r))))

  pub byte_agrees : (offset byte : ℕ) → Agree n (byte_on s unit offset byte) (byte_on o unit offset byte)
  byte_agrees offset byte =
      alike (Agree n) (eqb offset 0 && TW.initialises byte) (λ e. initialised_agrees)
      (λ e. alike (Agree n) (eqb offset 10)
      (λ e. section_agrees (λ (x : Sides). MW.low_byte_written (x.master unit) (mastership_of x.holder unit) (x.transmitter unit).modes.read_silo byte) (rw (m, h.holder, t)))
      (λ e. alike (Agree n) (eqb offset 11)
      (λ e. section_agrees (λ (x : Sides). MW.high_byte_written (x.master unit) (mastership_of x.holder unit) byte) (rw (m, h.holder)))
      (λ e. alike (Agree n) (ltb offset 16) (λ e. transmitter_agrees n h unit (rw t)) (λ e. receiver_agrees n h unit (rw r)))))

  pub read_agrees : (offset : ℕ) → Agree n (read_on s unit offset) (read_on o unit offset)
  read_agrees offset =
      alike (Agree n) (eqb offset 10) (λ e. master_agrees n h unit (rw (m, t)))
      (λ e. alike (Agree n) (ltb offset 16) (λ e. transmitter_agrees n h unit (rw t)) (λ e. receiver_agrees n h unit (rw r)))

-- ---- a slice with no master

pub masterless_agrees : (n : ℕ) {s o : Sides} → Agree n s o → (unit : ℕ) → (unit < 16 → unit < n) → Agree n (masterless_on s unit) (masterless_on o unit)
masterless_agrees n h unit near =
    alike (Agree n) (ltb unit 16)
    (λ e. holder_agrees n (master_agrees n h unit (ap taken_over (h.master unit (near (ltb-true unit 16 e))))) refl)
    (λ e. record { holder = h.holder; transmitter = λ k there. ap master_missed (h.transmitter k there); receiver = h.receiver; master = h.master })
