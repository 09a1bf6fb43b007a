-- Whether a side may move, on single cells of its head.
-- Assumes nothing.
use Rattle.std.specs.Prelude.{not, ◌&&◌, ◌≡◌, List, ℕ, ◌+◌, ◌≤◌, eqb, leb, ltb, length}
use Rattle.std.proofs.Common.{ap, sym, ◌∙◌, arith, lt-ltb, le-ltb, ltb-true, ltb-false}
use Rattle.codec.specs.Receivers.{dec_receiver, receiver_at}
use Rattle.codec.specs.Rings.{length_in}
use Rattle.codec.specs.Transmitters.{dec_transmitter, transmitter_at}
use Rattle.codec.specs.Window.{cell, window}
use Rattle.laws.specs.Bits.{bits, bit_at}
use Rattle.laws.specs.Pick.{by}
use Rattle.receiver.specs.Moves as R
use Rattle.transmitter.specs.Moves as T
use Rattle.plain.specs.Laws.Faults.{no_fault, some_held}
use Rattle.plain.specs.Laws.Heads.{head_and_silo}
use Rattle.plain_moves.specs.Moving.{room_by}
use Rattle.plain_moves.specs.Laws.Sides.{side}

-- a length above 64 reads as 64, and is no room either
room : (ring : ℕ) → room_by ring ≡ ltb (length_in 64 ring) 64
room ring =
    by (room_by ring) (λ e. rw (e, lt-ltb (length_in 64 ring) 64 (omega (arith, ltb-true))))
    (λ e. rw (e, le-ltb (length_in 64 ring) 64 (omega (arith, ltb-false))))

module _ (ring block own low count control status crc serial : ℕ) (silo : List ℕ) where
  pub may_out : bit_at control 14 && bit_at control 1 && eqb (bits status 9 6) 0 && room_by ring && not (bit_at control 7) && not (bit_at status 8 && bit_at status 6)
      ≡ T.may_move (dec_transmitter (side ring block own low count control status crc serial silo))
  may_out = rw (no_fault status, room ring)

  pub may_in : bit_at control 14 && leb 64 ring && eqb (bits status 9 6) 0 ≡ R.may_move (dec_receiver (side ring block own low count control status crc serial silo))
  may_in = rw (no_fault status, some_held ring)

-- ---- at a place of the cells

module _ (cells : List ℕ) (at : ℕ) (fits : at + 73 ≤ length cells) where
  abbrev ring : ℕ
  ring = cell cells at

  abbrev control : ℕ
  control = cell cells (at + 5)

  abbrev status : ℕ
  status = cell cells (at + 6)

  pub may_out_at : bit_at control 14 && bit_at control 1 && eqb (bits status 9 6) 0 && room_by ring && not (bit_at control 7) && not (bit_at status 8 && bit_at status 6)
      ≡ T.may_move (transmitter_at cells at)
  may_out_at =
      may_out ring (cell cells (at + 1)) (cell cells (at + 2)) (cell cells (at + 3)) (cell cells (at + 4)) control status (cell cells (at + 7)) (cell cells (at + 8)) (window cells (at + 9) 64)
      ∙ ap (λ (w : List ℕ). T.may_move (dec_transmitter w)) (sym (head_and_silo cells at fits))

  pub may_in_at : bit_at control 14 && leb 64 ring && eqb (bits status 9 6) 0 ≡ R.may_move (receiver_at cells at)
  may_in_at =
      may_in ring (cell cells (at + 1)) (cell cells (at + 2)) (cell cells (at + 3)) (cell cells (at + 4)) control status (cell cells (at + 7)) (cell cells (at + 8)) (window cells (at + 9) 64)
      ∙ ap (λ (w : List ℕ). R.may_move (dec_receiver w)) (sym (head_and_silo cells at fits))
