-- A receiver's cells: read as they were written; and whatever they hold, what is read is within the values it may take.
-- Assumes nothing.
use Rattle.std.specs.Prelude.{◌≡◌, refl, Bool, true, false, List, ℕ, ◌+◌, ◌%◌, ◌^◌, ◌≤◌, ◌<◌, length}
use Rattle.std.proofs.Common.{ap, ◌∙◌, arith}
use Rattle.ends.specs.declared.End.{End}
use Rattle.laws.specs.Bits.{bit, bit_at, on}
use Rattle.laws.specs.Laws.Both.{right_of, implied}
use Rattle.laws.specs.Laws.Fields.{on_bit}
use Rattle.words.specs.Address.{extension_of}
use Rattle.words.specs.Bits.RSR
use Rattle.words.specs.Laws.Registers.{control_back, status_back}
use Rattle.receiver.specs.Groups.{with_mark}
use Rattle.receiver.specs.Requests.{settled}
use Rattle.receiver.specs.Side.{Within}
use Rattle.receiver.specs.Laws.Keeps.{marks}
use Rattle.receiver.specs.declared.side.Channel.{Channel}
use Rattle.receiver.specs.declared.side.Commands.{Commands}
use Rattle.receiver.specs.declared.side.Faults.{Faults}
use Rattle.receiver.specs.declared.side.Modes.{Modes}
use Rattle.receiver.specs.declared.side.Outcome.{Outcome}
use Rattle.receiver.specs.declared.side.Receiver.{Receiver}
use Rattle.codec.specs.Ends.{OWN, CONTROL, STATUS, MARK, end_in}
use Rattle.codec.specs.Receivers.{control_cell, status_cell, enc_receiver, receiver_in, dec_receiver, receiver_at}
use Rattle.codec.specs.Window.{cell, window, splice}
use Rattle.codec.proofs.Laws.EndLaws.{length_end, end_back, end_within}
use Rattle.codec.specs.Laws.WindowLaws.{length_window, window_spliced}

-- ---- what is written is read

-- a flag is its own lowest bit
bit_low : (b : Bool) → on (bit b % 2) ≡ b
bit_low true = refl
bit_low false = refl

-- a receiver with its groups of bits replaced is the same where each group is
abbrev made : Receiver → Commands → Modes → Faults → Outcome → Channel → Receiver
made r commands modes faults outcome channel =
    record { end = r.end; commands = commands; modes = modes; faults = faults; outcome = outcome; channel = channel }

same : (r : Receiver) {c c' : Commands} {m m' : Modes} {f f' : Faults} {o o' : Outcome} {x x' : Channel}
    → c ≡ c' → m ≡ m' → f ≡ f' → o ≡ o' → x ≡ x' → made r c m f o x ≡ made r c' m' f' o' x'
same r c m f o x = rw (c, m, f, o, x)

module _ (old : List ℕ) (lent : length old ≡ 73) (r : Receiver) (h : Within r) where
  pub length_receiver : length (enc_receiver old r) ≡ 73
  length_receiver = length_end old lent r.end (bit r.channel.truncated) (control_cell r) (status_cell r) h.end

  pub dec_enc_receiver : dec_receiver (enc_receiver old r) ≡ r
  dec_enc_receiver =
      let extension = extension_of r.end.load.address.0 in
      let two : extension < 2 ^ 2 = omega (arith, h.end.load.eighteen_bits) in
      let c =
      control_back r.commands.receive_data r.end.load.loaded r.modes.inhibit_increment r.end.mark extension r.modes.interrupt_enable
      r.modes.load_silo r.modes.sender r.commands.receive_word r.modes.memory_requests r.modes.reject two h.sender
      (control_cell r) refl in
      let s =
      status_back r.end.shown.a r.end.shown.b r.end.opened r.outcome.reject_complete r.channel.owed r.outcome.success
      r.channel.good r.faults.byte_count_overflow r.faults.time_out r.faults.parity r.faults.transmission_error
      r.faults.memory_overflow r.faults.nonexistent_location r.channel.bad_parity h.end.shown.code_a h.end.shown.code_b (status_cell r) refl in
      let end = end_back old lent r.end (bit r.channel.truncated) (control_cell r) (status_cell r) h.end (simp (c 1, on_bit)) (c 4) (simp (s 0, s 1))
      (bit_at (status_cell r) RSR.CHN_OPN) (bit_at (control_cell r) MARK) (simp (s 2, on_bit)) (simp (c 3, on_bit)) in
      let groups : receiver_in r.end (bit r.channel.truncated) (control_cell r) (status_cell r) ≡ r =
      same r
      (simp (c 0, c 8, on_bit))
      (simp (c 2, c 5, c 6, c 7, c 9, c 10, on_bit))
      (simp (s 7, s 8, s 9, s 10, s 11, s 12, on_bit))
      (simp (s 3, s 5, on_bit))
      (simp (s 4, s 6, s 13, on_bit, bit_low) (ap (λ (b : Bool). record { owed = r.channel.owed; good = r.channel.good; bad_parity = r.channel.bad_parity; truncated = b }) (implied r.channel.truncated r.end.opened h.truncated))) in
      ap (λ (e : End). settled (receiver_in e (bit r.channel.truncated) (control_cell r) (status_cell r))) end
      ∙ ap settled groups
      ∙ ap (with_mark r) (implied r.end.mark r.end.opened h.marked)

-- ---- what is read is within its values

pub within_receiver : (w : List ℕ) → length w ≡ 73 → Within (dec_receiver w)
within_receiver w long =
    record {
      end = end_within w (bit_at (cell w STATUS) RSR.CHN_OPN) (bit_at (cell w CONTROL) MARK) long;
      sender = omega arith;
      truncated = λ e. right_of (bit_at (cell w OWN) 0) (bit_at (cell w STATUS) RSR.CHN_OPN) e;
      marked = marks (receiver_in (end_in w (bit_at (cell w STATUS) RSR.CHN_OPN) (bit_at (cell w CONTROL) MARK)) (cell w OWN) (cell w CONTROL) (cell w STATUS));
    }

-- ---- at a place of the cells

module _ (cells : List ℕ) (at : ℕ) (fits : at + 73 ≤ length cells) where
  pub receiver_loaded : Within (receiver_at cells at)
  receiver_loaded = within_receiver (window cells at 73) (length_window cells at 73 fits)

  pub receiver_stored : (r : Receiver) → Within r → receiver_at (splice cells at (enc_receiver (window cells at 73) r)) at ≡ r
  receiver_stored r h =
      let old = window cells at 73 in
      let lent = length_window cells at 73 fits in
      ap dec_receiver (window_spliced cells at (enc_receiver old r) 73 (length_receiver old lent r h) fits) ∙ dec_enc_receiver old lent r h
