-- What the calls of a host show of a fitted unit: the bits of TSR, RSR and TMMR, IE in TCR and RCR, the
-- interrupt levels, and the serials.
-- Assumes nothing.
use Rattle.std.specs.Prelude.{Bool, false, not, true, List, ◌≡◌, refl, ℕ, ◌<◌, leb, Result, Ok, Err}
use Rattle.std.proofs.Common.{ap, sym, ◌∙◌, arith, leb-true}
use Rattle.frames.specs.Laws.Leaves.{transmitter_within, receiver_within, stays}
use Rattle.accesses.specs.Masters.{mastership_of}
use Rattle.accesses.specs.Reading.{unit_read}
use Rattle.cells.specs.Fitted.{transmitter_of, receiver_of, master_of}
use Rattle.cells.specs.Layout.{count_in, holder_in}
use Rattle.cells.specs.Ranges.{in_range}
use Rattle.laws.specs.Bits.{bit_at}
use Rattle.laws.specs.Pick.{by, past, either}
use Rattle.master.specs.Reading.{tmmr_word, removes}
use Rattle.master.specs.Ring.{address}
use Rattle.master.specs.Section.{has_master}
use Rattle.master.specs.Writing.{takes_address}
use Rattle.pcl.specs.Calls.{read_call}
use Rattle.pcl.specs.Numbers.{level_number, level_value, read_call_number, read_call_word, serial_number, serial_value}
use Rattle.pcl.specs.Sides.{at_side, level_call, serial_call}
use Rattle.receiver.specs.Requests as R
use Rattle.receiver.specs.Side as RS
use Rattle.receiver.specs.declared.side.Receiver.{Receiver}
use Rattle.receiver_registers.specs.Shown as RR
use Rattle.silos.specs.Silo.{is_empty, oldest}
use Rattle.transmitter.specs.Requests as T
use Rattle.transmitter.specs.Side as TS
use Rattle.transmitter.specs.declared.side.Transmitter.{Transmitter}
use Rattle.transmitter_registers.specs.Shown as TR
use Rattle.words.specs.Address.{extension_of}
use Rattle.words.specs.declared.answers.Refusal.{Refusal}
use Rattle.promise.specs.Reports.{Level, Serial, Shows, Status, bit_read}
use Rattle.promise.proofs.Laws.StatusBits.{StatusBits, channel_bit, enabled_bit, status_bits}
use Rattle.promise.specs.World.{World}

-- ---- a call at a fitted unit is what its side gives

module _ (w : World) (ok : in_range w.cells ≡ true) (unit : ℕ) (fitted : unit < count_in w.cells) where
  some : leb (count_in w.cells) unit ≡ false
  some = by (leb (count_in w.cells) unit) (λ e. absurd (omega (arith, leb-true (count_in w.cells) unit e))) (λ e. e)

  read_is : (offset : ℕ) → (read_call w.cells unit offset).0 ≡ (unit_read w.cells unit offset).0
  read_is offset = sym (ap (λ (r : Result ℕ Refusal × List ℕ). r.0) (past _ (ap not ok) (past _ some refl)))

  shows : (offset place word : ℕ) (set : Bool) → (unit_read w.cells unit offset).0 ≡ Ok word → bit_at word place ≡ set
      → Shows w unit offset place set
  shows offset place word set is so =
      let e = read_is offset ∙ is in
      (ap read_call_number e, ap (λ (r : Result ℕ Refusal). bit_at (read_call_word r) place) e ∙ so)

  bit_is : (offset place word : ℕ) → (unit_read w.cells unit offset).0 ≡ Ok word → bit_read w unit offset place ≡ bit_at word place
  bit_is offset place word is = ap (λ (r : Result ℕ Refusal). bit_at (read_call_word r) place) (read_is offset ∙ is)

  pub level_is : (side : ℕ) (level : Bool) → at_side side (Ok (T.level_of (transmitter_of w.cells unit))) (Ok (R.level_of (receiver_of w.cells unit))) (Err Refusal.NoUnit) ≡ Ok level
      → Level w unit side level
  level_is side level is =
      let e : level_call w.cells unit side ≡ Ok level = sym (past _ (ap not ok) (past _ some refl)) ∙ is in
      (ap level_number e, ap level_value e)

  pub serial_is : (side number : ℕ) → at_side side (Ok (transmitter_of w.cells unit).end.serial) (Ok (receiver_of w.cells unit).end.serial) (Err Refusal.NoUnit) ≡ Ok number
      → Serial w unit side number
  serial_is side number is =
      let e : serial_call w.cells unit side ≡ Ok number = sym (past _ (ap not ok) (past _ some refl)) ∙ is in
      (ap serial_number e, ap serial_value e)

  -- ---- TSR and RSR

  shows_status : (offset word : ℕ) {f4 f5 f6 f7 f15 success busy : Bool} → (unit_read w.cells unit offset).0 ≡ Ok word
      → StatusBits word f4 f5 f6 f7 f15 → f7 ≡ success → f6 ≡ busy → f5 ≡ false → f15 ≡ false → Status w unit offset success busy
  shows_status offset word is s seven six five fifteen =
      record {
        suc_txf = shows offset 7 word _ is (s.bit7 ∙ seven);
        is_busy = shows offset 6 word _ is (s.bit6 ∙ six);
        no_sore = shows offset 5 word _ is (s.bit5 ∙ five);
        no_err = shows offset 15 word _ is (s.bit15 ∙ fifteen);
      }

  abbrev t : Transmitter
  t = transmitter_of w.cells unit

  tsr : StatusBits (TR.status_word t) t.outcome.bus_busy t.outcome.software_reject (TS.is_busy t) t.outcome.success (TS.has_error t)
  tsr =
      let h = (transmitter_within (stays ok) unit fitted).end.shown in
      status_bits t.end.shown.a t.end.shown.b h.code_a h.code_b t.outcome.bus_busy t.outcome.software_reject (TS.is_busy t) t.outcome.success
      (TS.data_in_ready t) t.faults.overrun t.faults.time_out t.faults.master_down t.faults.transmission_error t.faults.memory_overflow
      t.faults.nonexistent_location (TS.has_error t)

  pub sender_status : {success busy : Bool} → t.outcome.success ≡ success → TS.is_busy t ≡ busy → t.outcome.software_reject ≡ false
      → TS.has_error t ≡ false → Status w unit 2 success busy
  sender_status = shows_status 2 (TR.status_word t) refl tsr

  abbrev r : Receiver
  r = receiver_of w.cells unit

  rsr : StatusBits (RR.status_word r) r.end.opened r.outcome.reject_complete (RS.is_busy r) r.outcome.success (RS.has_error r)
  rsr =
      let h = (receiver_within (stays ok) unit fitted).end.shown in
      status_bits r.end.shown.a r.end.shown.b h.code_a h.code_b r.end.opened r.outcome.reject_complete (RS.is_busy r) r.outcome.success
      (RS.data_out_ready r) r.faults.byte_count_overflow r.faults.time_out r.faults.parity r.faults.transmission_error r.faults.memory_overflow
      r.faults.nonexistent_location (RS.has_error r)

  pub receiver_status : {success busy : Bool} → r.outcome.success ≡ success → RS.is_busy r ≡ busy → r.outcome.reject_complete ≡ false
      → RS.has_error r ≡ false → Status w unit 18 success busy
  receiver_status = shows_status 18 (RR.status_word r) refl rsr

  -- ---- CHN OPN

  pub sender_channel : {opened : Bool} → t.end.opened ≡ opened → Shows w unit 10 11 opened
  sender_channel {opened} so =
      let m = master_of w.cells unit in
      let mastership = mastership_of (holder_in w.cells) unit in
      let word = tmmr_word m mastership t.end.opened t.modes.read_silo in
      shows 10 11 word opened (either (λ (p : Result ℕ Refusal × List ℕ). p.0 ≡ Ok word) (removes m t.modes.read_silo) (λ e. refl) (λ e. refl))
      (channel_bit (address (oldest m.addresses)) (omega arith) (has_master mastership) m.secondary m.now_master t.end.opened m.auto_address
      (takes_address m t.modes.read_silo) (not (is_empty m.addresses)) ∙ so)

  pub receiver_channel : {opened : Bool} → r.end.opened ≡ opened → Shows w unit 18 4 opened
  receiver_channel {opened} so = shows 18 4 (RR.status_word r) opened refl (rsr.bit4 ∙ so)

  -- ---- IE

  pub sender_enabled : bit_read w unit 0 6 ≡ t.modes.interrupt_enable
  sender_enabled =
      let h = transmitter_within (stays ok) unit fitted in
      bit_is 0 6 (TR.control_word t) refl
      ∙ enabled_bit t.commands.start_transmission false t.modes.inhibit_increment (not (is_empty t.end.silo)) (extension_of t.end.load.address.0)
      t.modes.interrupt_enable t.modes.read_silo t.modes.destination t.commands.send_word t.modes.memory_requests t.modes.retry_if_busy
      (omega (arith, h.end.load.eighteen_bits)) h.destination

  pub receiver_enabled : bit_read w unit 16 6 ≡ r.modes.interrupt_enable
  receiver_enabled =
      let h = receiver_within (stays ok) unit fitted in
      bit_is 16 6 (RR.control_word r) refl
      ∙ enabled_bit r.commands.receive_data false r.modes.inhibit_increment (RS.data_in_ready r) (extension_of r.end.load.address.0)
      r.modes.interrupt_enable r.modes.load_silo r.modes.sender r.commands.receive_word r.modes.memory_requests r.modes.reject
      (omega (arith, h.end.load.eighteen_bits)) h.sender
