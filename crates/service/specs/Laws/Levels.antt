-- The interrupt level of a side, and where it may not move at once, on single cells of its head.
-- Assumes nothing.
use Rattle.std.specs.Prelude.{Bool, true, false, not, ◌&&◌, ◌||◌, ◌≡◌, refl, List, ℕ, ◌+◌, ◌≤◌, eqb, leb, length}
use Rattle.std.proofs.Common.{ap, sym, ◌∙◌}
use Rattle.codec.specs.Receivers.{receiver_at}
use Rattle.codec.specs.Transmitters.{transmitter_at}
use Rattle.codec.specs.Window.{cell}
use Rattle.laws.specs.Bits.{bits, bit_at}
use Rattle.plain.specs.Laws.Faults.{no_fault, some_held}
use Rattle.plain.specs.Laws.Heads.{head_and_silo}
use Rattle.plain_moves.specs.Moving.{room_by}
use Rattle.plain_moves.proofs.Laws.MayMove.{may_out_at}
use Rattle.receiver.specs.Moves as RM
use Rattle.receiver.specs.Requests as R
use Rattle.receiver.specs.Side.{data_out_ready}
use Rattle.transmitter.specs.Moves as TM
use Rattle.transmitter.specs.Requests as T

not_not : (b : Bool) → not (not b) ≡ b
not_not true = refl
not_not false = refl

-- ERR, from the six error bits together
fault : (s : ℕ) → not (eqb (bits s 9 6) 0) ≡ (bit_at s 9 || bit_at s 10 || bit_at s 11 || bit_at s 12 || bit_at s 13 || bit_at s 14)
fault s = ap not (no_fault s) ∙ not_not _

behind_false : (before b c : Bool) → (before && false && b && c) ≡ false
behind_false true b c = refl
behind_false false b c = refl

module _ (cells : List ℕ) (at : ℕ) (fits : at + 73 ≤ length cells) where
  abbrev control : ℕ
  control = cell cells (at + 5)

  abbrev status : ℕ
  status = cell cells (at + 6)

  -- IE clear, and IE set
  pub transmitter_silent : bit_at control 6 ≡ false → false ≡ T.level_of (transmitter_at cells at)
  transmitter_silent e = rw (head_and_silo cells at fits, e)

  pub transmitter_level_at : bit_at control 6 ≡ true
      → (not (eqb (bits status 9 6) 0) || bit_at status 7 || bit_at status 5 || (bit_at status 4 && not (bit_at control 15))) ≡ T.level_of (transmitter_at cells at)
  transmitter_level_at e = rw (fault status, head_and_silo cells at fits, e)

  pub has_word_at : leb 64 (cell cells at) ≡ data_out_ready (receiver_at cells at)
  has_word_at = rw (head_and_silo cells at fits, some_held (cell cells at))

  pub receiver_silent : bit_at control 6 ≡ false → false ≡ R.level_of (receiver_at cells at)
  receiver_silent e = rw (head_and_silo cells at fits, e)

  pub receiver_level_at : bit_at control 6 ≡ true
      → (not (eqb (bits status 9 6) 0) || bit_at status 7 || bit_at status 5 || (data_out_ready (receiver_at cells at) && not (bit_at control 14))) ≡ R.level_of (receiver_at cells at)
  receiver_level_at e = rw (fault status, head_and_silo cells at fits, e)

  -- TX NPR or RC NPR clear
  pub transmitter_rests : bit_at control 14 ≡ false → false ≡ TM.may_move (transmitter_at cells at)
  transmitter_rests e = rw (head_and_silo cells at fits, e)

  pub receiver_rests : bit_at control 14 ≡ false → false ≡ RM.may_move (receiver_at cells at)
  receiver_rests e = rw (head_and_silo cells at fits, e)

  -- no room
  pub transmitter_full : room_by (cell cells at) ≡ false → false ≡ TM.may_move (transmitter_at cells at)
  transmitter_full e =
      sym (behind_false (bit_at control 14 && bit_at control 1 && eqb (bits status 9 6) 0) (not (bit_at control 7)) (not (bit_at status 8 && bit_at status 6)))
      ∙ rw e at (may_out_at cells at fits)
