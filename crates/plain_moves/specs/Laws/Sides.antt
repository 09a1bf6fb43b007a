-- A side's 73 cells in their normal form: read as a side, and written in the place of the window that stood there, they are as they were.
-- Assumes nothing.
use Rattle.std.specs.Prelude.{Bool, true, ◌&&◌, ◌||◌, ◌≡◌, refl, List, [], ◌∷◌, ◌++◌, ℕ, ◌+◌, ◌*◌, ◌%◌, ◌^◌, ◌≤◌, ◌<◌, min, eqb}
use Rattle.std.proofs.Common.{ap, ◌∙◌, arith}
use Rattle.codec.specs.Ends.{RING, SILO, window_of, silo_in, end_in}
use Rattle.codec.specs.Receivers as R
use Rattle.codec.specs.Receivers.{enc_receiver, dec_receiver}
use Rattle.codec.specs.Transmitters as T
use Rattle.codec.specs.Transmitters.{enc_transmitter, dec_transmitter}
use Rattle.codec.specs.Window.{cell, window}
use Rattle.laws.specs.Bits.{bit, bits, bit_at}
use Rattle.laws.specs.Laws.Fields.{whole, bit_on}
use Rattle.plain.specs.Laws.PlaceLaws.{parts}
use Rattle.words.specs.Address.{extension_of}
use Rattle.words.specs.Laws.Registers.{control_bits, control_fields, control_is, status_bits, status_fields, status_is}

-- the nine cells of a head, and those of the silo's ring
abbrev pub side : ℕ → ℕ → ℕ → ℕ → ℕ → ℕ → ℕ → ℕ → ℕ → List ℕ → List ℕ
side ring block own low count control status crc serial silo = (ring ∷ block ∷ own ∷ low ∷ count ∷ control ∷ status ∷ crc ∷ serial ∷ []) ++ silo

-- each number within its limits: it reads as it stands
pub record Normal (block low count control status crc serial : ℕ) : Type 0 where
  pub since : block ≤ 128
  pub low15 : low < 2 ^ 15
  pub count15 : count < 2 ^ 15
  pub control16 : control < 2 ^ 16
  pub status16 : status < 2 ^ 16
  pub crc16 : crc < 2 ^ 16
  pub serial16 : serial < 2 ^ 16

-- ---- the two cells of bits, taken apart and joined again

control_whole : (c : ℕ) → c < 2 ^ 16
    → control_bits (bit_at c 0) (bit_at c 1) (bit_at c 2) (bit_at c 3) (bits c 4 2) (bit_at c 6) (bit_at c 7) (bits c 8 5) (bit_at c 13) (bit_at c 14) (bit_at c 15) ≡ c
control_whole c h =
    control_is (bit_at c 0) (bit_at c 1) (bit_at c 2) (bit_at c 3) (bits c 4 2) (bit_at c 6) (bit_at c 7) (bits c 8 5) (bit_at c 13) (bit_at c 14) (bit_at c 15)
    ∙ simp bit_on (whole c (control_fields true true true true 0 true true 0 true true true) h)

status_whole : (s : ℕ) → s < 2 ^ 16
    → status_bits (bits s 0 2) (bits s 2 2) (bit_at s 4) (bit_at s 5) (bit_at s 6) (bit_at s 7) (bit_at s 8) (bit_at s 9) (bit_at s 10) (bit_at s 11) (bit_at s 12) (bit_at s 13) (bit_at s 14) (bit_at s 15) ≡ s
status_whole s h =
    status_is (bits s 0 2) (bits s 2 2) (bit_at s 4) (bit_at s 5) (bit_at s 6) (bit_at s 7) (bit_at s 8) (bit_at s 9) (bit_at s 10) (bit_at s 11) (bit_at s 12) (bit_at s 13) (bit_at s 14) (bit_at s 15)
    ∙ simp bit_on (whole s (status_fields 0 0 true true true true true true true true true true true true) h)

-- ---- a side

same_cells : {ring ring' block block' own own' low low' count count' control control' status status' crc crc' serial serial' : ℕ} {silo silo' : List ℕ}
    → ring ≡ ring' → block ≡ block' → own ≡ own' → low ≡ low' → count ≡ count' → control ≡ control' → status ≡ status' → crc ≡ crc' → serial ≡ serial' → silo ≡ silo'
    → side ring block own low count control status crc serial silo ≡ side ring' block' own' low' count' control' status' crc' serial' silo'
same_cells r b o l n c s k i w = rw (r, b, o, l, n, c, s, k, i, w)

-- the two parts of the silo that is read are written as they stand
module _ (ring block own low count control status crc serial : ℕ) (silo : List ℕ) (h : Normal block low count control status crc serial)
    (old : List ℕ) (kept : parts (cell old RING) (window old SILO 64) (silo_in (side ring block own low count control status crc serial silo)) ≡ (ring, silo)) where
  abbrev cells : List ℕ
  cells = side ring block own low count control status crc serial silo

  -- what both ends have. Whether they are open, and their mark, stand in the cells of bits.
  end_kept : (opened mark : Bool) (own' control' status' : ℕ) → own' ≡ own → control' ≡ control → status' ≡ status
      → window_of old (end_in cells opened mark) own' control' status' ≡ cells
  end_kept opened mark own' control' status' o c s =
      same_cells (ap (λ (p : ℕ × List ℕ). p.0) kept) (omega arith) o (omega arith) (omega arith) c s (omega arith) (omega arith) (ap (λ (p : ℕ × List ℕ). p.1) kept)

  -- the mark that is read is the one that stands there
  control_kept : (mark : Bool) → mark ≡ bit_at control 3
      → control_bits (bit_at control 0) (bit_at control 1) (bit_at control 2) mark (extension_of (bits control 4 2 * 2 ^ 16 + low % 2 ^ 15 * 2)) (bit_at control 6)
      (bit_at control 7) (bits control 8 5) (bit_at control 13) (bit_at control 14) (bit_at control 15)
      ≡ control
  control_kept mark m =
      let e : extension_of (bits control 4 2 * 2 ^ 16 + low % 2 ^ 15 * 2) ≡ bits control 4 2 = omega arith in
      rw (e, m) (control_whole control h.control16)

  -- and so are those at the status's computed bits
  status_kept : (at6 at8 at15 : Bool) → at6 ≡ bit_at status 6 → at8 ≡ bit_at status 8 → at15 ≡ bit_at status 15
      → status_bits (bits status 0 2) (bits status 2 2) (bit_at status 4) (bit_at status 5) at6 (bit_at status 7) at8 (bit_at status 9) (bit_at status 10)
      (bit_at status 11) (bit_at status 12) (bit_at status 13) (bit_at status 14) at15
      ≡ status
  status_kept at6 at8 at15 six eight fifteen = rw (six, eight, fifteen) (status_whole status h.status16)

  pub transmitter_kept : own < 32 → bit_at control 3 && (bit_at control 13 || bit_at status 6) ≡ bit_at control 3
      → bit_at status 8 && bit_at status 6 ≡ bit_at status 8 → bit_at status 15 && eqb (min 128 block) 128 ≡ bit_at status 15
      → enc_transmitter old (dec_transmitter cells) ≡ cells
  transmitter_kept latched marked ending awaiting =
      let t = dec_transmitter cells in
      end_kept (bit_at status 6) (bit_at control 3) (own % 32) (T.control_cell t) (T.status_cell t) (omega arith) (control_kept t.end.mark marked)
      (status_kept (bit_at status 6) t.channel.ending t.channel.awaiting refl ending awaiting)

  pub receiver_kept : bit (bit_at own 0 && bit_at status 4) ≡ own → bit_at control 3 && bit_at status 4 ≡ bit_at control 3
      → enc_receiver old (dec_receiver cells) ≡ cells
  receiver_kept truncated marked =
      let r = dec_receiver cells in
      end_kept (bit_at status 4) (bit_at control 3) (bit r.channel.truncated) (R.control_cell r) (R.status_cell r) truncated (control_kept r.end.mark marked)
      (status_kept (bit_at status 6) (bit_at status 8) (bit_at status 15) refl refl refl)
