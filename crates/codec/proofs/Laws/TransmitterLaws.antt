-- A transmitter's cells: read as they were written; and whatever they hold, what is read is within the values it may take.
-- Assumes nothing.
use Rattle.std.specs.Prelude.{◌≡◌, refl, Bool, List, ℕ, ◌+◌, ◌^◌, ◌≤◌, ◌<◌, min, eqb, length}
use Rattle.std.proofs.Common.{ap, ◌∙◌, arith, eq-eqb, eqb-true}
use Rattle.ends.specs.declared.End.{End}
use Rattle.laws.specs.Bits.{bit_at}
use Rattle.laws.specs.Laws.Both.{right_of, implied}
use Rattle.laws.specs.Laws.Fields.{on_bit}
use Rattle.words.specs.Address.{extension_of}
use Rattle.words.specs.Bits.TSR
use Rattle.words.specs.Laws.Registers.{control_back, status_back}
use Rattle.transmitter.specs.Groups.{with_mark}
use Rattle.transmitter.specs.Requests.{settled}
use Rattle.transmitter.specs.Side.{Within, is_busy}
use Rattle.transmitter.specs.Laws.Keeps.{marks}
use Rattle.transmitter.specs.declared.side.Channel.{Channel}
use Rattle.transmitter.specs.declared.side.Commands.{Commands}
use Rattle.transmitter.specs.declared.side.Faults.{Faults}
use Rattle.transmitter.specs.declared.side.Modes.{Modes}
use Rattle.transmitter.specs.declared.side.Outcome.{Outcome}
use Rattle.transmitter.specs.declared.side.Transmitter.{Transmitter}
use Rattle.codec.specs.Ends.{BLOCK, OWN, CONTROL, STATUS, MARK, end_in}
use Rattle.codec.specs.Transmitters.{control_cell, status_cell, enc_transmitter, transmitter_in, dec_transmitter, transmitter_at}
use Rattle.codec.specs.Window.{cell, window, splice}
use Rattle.codec.proofs.Laws.EndLaws.{length_end, end_back, end_within}
use Rattle.codec.specs.Laws.WindowLaws.{length_window, window_spliced}

-- ---- what is written is read

-- a transmitter with its groups of bits replaced is the same where each group is
abbrev made : Transmitter → Commands → Modes → Faults → Outcome → Channel → Transmitter
made t commands modes faults outcome channel =
    record { end = t.end; commands = commands; modes = modes; faults = faults; outcome = outcome; channel = channel }

same : (t : Transmitter) {c c' : Commands} {m m' : Modes} {f f' : Faults} {o o' : Outcome} {x x' : Channel}
    → c ≡ c' → m ≡ m' → f ≡ f' → o ≡ o' → x ≡ x' → made t c m f o x ≡ made t c' m' f' o' x'
same t c m f o x = rw (c, m, f, o, x)

same_channel : {e e' a a' : Bool} {d d' : ℕ} → e ≡ e' → a ≡ a' → d ≡ d'
    → ◌≡◌ {A = Channel} (record { ending = e; awaiting = a; destination = d }) (record { ending = e'; awaiting = a'; destination = d' })
same_channel e a d = rw (e, a, d)

module _ (old : List ℕ) (lent : length old ≡ 73) (t : Transmitter) (h : Within t) where
  pub length_transmitter : length (enc_transmitter old t) ≡ 73
  length_transmitter = length_end old lent t.end t.channel.destination (control_cell t) (status_cell t) h.end

  pub dec_enc_transmitter : dec_transmitter (enc_transmitter old t) ≡ t
  dec_enc_transmitter =
      let extension = extension_of t.end.load.address.0 in
      let two : extension < 2 ^ 2 = omega (arith, h.end.load.eighteen_bits) in
      let c =
      control_back t.commands.start_transmission t.end.load.loaded t.modes.inhibit_increment t.end.mark extension t.modes.interrupt_enable
      t.modes.read_silo t.modes.destination t.commands.send_word t.modes.memory_requests t.modes.retry_if_busy two h.destination
      (control_cell t) refl in
      let s =
      status_back t.end.shown.a t.end.shown.b t.outcome.bus_busy t.outcome.software_reject t.end.opened t.outcome.success
      t.channel.ending t.faults.overrun t.faults.time_out t.faults.master_down t.faults.transmission_error
      t.faults.memory_overflow t.faults.nonexistent_location t.channel.awaiting h.end.shown.code_a h.end.shown.code_b (status_cell t) refl in
      let end = end_back old lent t.end t.channel.destination (control_cell t) (status_cell t) h.end (simp (c 1, on_bit)) (c 4) (simp (s 0, s 1))
      (bit_at (status_cell t) TSR.BUSY) (bit_at (control_cell t) MARK) (simp (s 4, on_bit)) (simp (c 3, on_bit)) in
      let groups : transmitter_in t.end t.channel.destination (control_cell t) (status_cell t) ≡ t =
      same t
      (simp (c 0, c 8, on_bit))
      (simp (c 2, c 5, c 6, c 7, c 9, c 10, on_bit))
      (simp (s 7, s 8, s 9, s 10, s 11, s 12, on_bit))
      (simp (s 2, s 3, s 5, on_bit))
      (simp (s 6, s 13, on_bit) (same_channel (implied t.channel.ending t.end.opened h.ending)
      (implied t.channel.awaiting (eqb t.end.block 128) (λ e. eq-eqb t.end.block 128 (h.awaited e))) (omega (arith, h.latched)))) in
      ap (λ (e : End). settled (transmitter_in e t.channel.destination (control_cell t) (status_cell t))) end
      ∙ ap settled groups
      ∙ ap (with_mark t) (implied t.end.mark (is_busy t) h.marked)

-- ---- what is read is within its values

pub within_transmitter : (w : List ℕ) → length w ≡ 73 → Within (dec_transmitter w)
within_transmitter w long =
    record {
      end = end_within w (bit_at (cell w STATUS) TSR.BUSY) (bit_at (cell w CONTROL) MARK) long;
      destination = omega arith;
      latched = omega arith;
      ending = λ e. right_of (bit_at (cell w STATUS) TSR.DTIRDY) (bit_at (cell w STATUS) TSR.BUSY) e;
      awaited = λ e. eqb-true (min 128 (cell w BLOCK)) 128 (right_of (bit_at (cell w STATUS) TSR.ERR) (eqb (min 128 (cell w BLOCK)) 128) e);
      marked = marks (transmitter_in (end_in w (bit_at (cell w STATUS) TSR.BUSY) (bit_at (cell w CONTROL) MARK)) (cell w OWN) (cell w CONTROL) (cell w STATUS));
    }

-- ---- at a place of the cells

module _ (cells : List ℕ) (at : ℕ) (fits : at + 73 ≤ length cells) where
  pub transmitter_loaded : Within (transmitter_at cells at)
  transmitter_loaded = within_transmitter (window cells at 73) (length_window cells at 73 fits)

  pub transmitter_stored : (t : Transmitter) → Within t → transmitter_at (splice cells at (enc_transmitter (window cells at 73) t)) at ≡ t
  transmitter_stored t h =
      let old = window cells at 73 in
      let lent = length_window cells at 73 fits in
      ap dec_transmitter (window_spliced cells at (enc_transmitter old t) 73 (length_transmitter old lent t h) fits) ∙ dec_enc_transmitter old lent t h
