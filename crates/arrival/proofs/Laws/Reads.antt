-- What receiving finds at a unit: what reads of RSR, RCR and RDBA give there, and the serial of its receiver. They leave every cell.
-- Assumes nothing.
use Rattle.std.specs.Prelude.{Bool, true, false, not, List, ◌≡◌, refl, ℕ, leb, Ok, Result}
use Rattle.std.proofs.Common.{ap, ap₂, sym, ◌∙◌, arith, leb-false}
use Rattle.accesses.specs.Reading.{unit_read}
use Rattle.board.specs.Receive.{address_in, complete_in, standing}
use Rattle.board.proofs.Laws.ReceivedLaws.{words_stood}
use Rattle.cells.specs.Fitted.{receiver_of}
use Rattle.cells.specs.Layout.{count_in}
use Rattle.cells.specs.Ranges.{in_range}
use Rattle.frames.specs.Laws.Leaves.{receiver_within, stays}
use Rattle.laws.specs.Pick.{by, past}
use Rattle.pcl.specs.Calls.{read_by, read_call}
use Rattle.pcl.specs.Numbers.{read_call_number, read_call_word}
use Rattle.pcl.specs.Sides.{serial_call}
use Rattle.receiver.specs.Side as R
use Rattle.receiver.specs.declared.side.Receiver.{Receiver}
use Rattle.receiver_registers.specs.Shown.{control_word, status_word}
use Rattle.words.specs.Address.{extension_of, low_of}
use Rattle.words.specs.Laws.Registers.{control_back}
use Rattle.words.specs.declared.answers.Refusal.{Refusal}

-- the word that a read gives
abbrev pub shown : List ℕ → ℕ → ℕ → ℕ
shown cells unit offset = read_call_word (read_call cells unit offset).0

-- ---- a read that is answered 0 is one at a fitted unit, of cells in range

pub record Ready (cells : List ℕ) (unit : ℕ) : Type 0 where
  pub ranged : in_range cells ≡ true
  pub fitted : leb (count_in cells) unit ≡ false

pub ready : (cells : List ℕ) (unit offset : ℕ) → read_call_number (read_call cells unit offset).0 ≡ 0 → Ready cells unit
ready cells unit offset e =
    by (in_range cells)
    (λ ok.
    by (leb (count_in cells) unit) (λ out. absurd (let z : ◌≡◌ {A = ℕ} 1 0 = rw (ok, out) at e in omega arith))
    (λ there. record { ranged = ok; fitted = there }))
    (λ bad. absurd (let z : ◌≡◌ {A = ℕ} 9 0 = rw bad at e in omega arith))

module _ (cells : List ℕ) (unit : ℕ) (is : Ready cells unit) where
  abbrev r : Receiver
  r = receiver_of cells unit

  abbrev address : ℕ
  address = r.end.load.address.0

  read_is : (offset word : ℕ) → unit_read cells unit offset ≡ (Ok word, cells) → read_call cells unit offset ≡ (Ok word, cells)
  read_is offset word e = sym (past _ (ap not is.ranged) (past _ is.fitted refl)) ∙ ap read_by e

  word_is : (offset word : ℕ) → unit_read cells unit offset ≡ (Ok word, cells) → shown cells unit offset ≡ word
  word_is offset word e = ap (λ (p : Result ℕ Refusal × List ℕ). read_call_word p.0) (read_is offset word e)

  -- EA17 and EA16 in RCR, and RDBA: the address of the load
  address_is : address_in (control_word r) (low_of address) ≡ address
  address_is =
      let h : R.Within r = receiver_within (stays is.ranged) unit (leb-false (count_in cells) unit is.fitted) in
      let back =
      control_back r.commands.receive_data false r.modes.inhibit_increment (R.data_in_ready r) (extension_of address) r.modes.interrupt_enable r.modes.load_silo
      r.modes.sender r.commands.receive_word r.modes.memory_requests r.modes.reject (omega (arith, h.end.load.eighteen_bits)) h.sender
      (control_word r) refl 4 in
      omega (arith, back)

  number_is : (offset word : ℕ) → unit_read cells unit offset ≡ (Ok word, cells) → read_call_number (read_call cells unit offset).0 ≡ 0
  number_is offset word e = ap (λ (p : Result ℕ Refusal × List ℕ). read_call_number p.0) (read_is offset word e)

  pub control_answered : read_call_number (read_call cells unit 16).0 ≡ 0
  control_answered = number_is 16 (control_word r) refl

  pub address_answered : read_call_number (read_call cells unit 24).0 ≡ 0
  address_answered = number_is 24 (low_of address) refl

  pub address_shown : address_in (shown cells unit 16) (shown cells unit 24) ≡ address
  address_shown = ap₂ address_in (word_is 16 (control_word r) refl) (word_is 24 (low_of address) refl) ∙ address_is

  pub serial_is : serial_call cells unit 1 ≡ Ok r.end.serial
  serial_is = sym (past _ (ap not is.ranged) (past _ is.fitted refl))

  pub standing_is :
      standing cells unit
      ≡ (Ok (record { complete = complete_in (shown cells unit 18); end = address; serial = r.end.serial }), cells)
  standing_is =
      words_stood cells unit (status_word r) (control_word r) (low_of address) r.end.serial cells cells cells (read_is 18 (status_word r) refl)
      (read_is 16 (control_word r) refl) (read_is 24 (low_of address) refl) serial_is
      ∙ ap₂ (λ (complete : Bool) (end : ℕ). (Ok (record { complete = complete; end = end; serial = r.end.serial }), cells))
      (ap complete_in (sym (word_is 18 (status_word r) refl))) address_is
