-- The words of a message that was put into a memory, found there by the byte addresses of its first word and behind its last.
-- Assumes nothing.
use Rattle.std.specs.Prelude.{List, ◌++◌, ◌≡◌, ℕ, ◌+◌, ◌-◌, ◌*◌, ◌/◌, ◌≤◌, length, take, drop}
use Rattle.std.proofs.Common.{append_assoc, arith, le-leb, drop_at, length-take-le}
use Rattle.std.proofs.Math.Seq.{take-append_seam}
use Rattle.board.specs.Receive.{words_between}
use Rattle.delivery.specs.Written.{written}
use Rattle.delivery.specs.Laws.WrittenWords.{written_length}

module _ (before : List ℕ) (place : ℕ) (content : List ℕ) (fits : place + length content ≤ length before) where
  -- where it stands
  stretch_is : take (length content) (drop place (written before place content)) ≡ content
  stretch_is =
      rw (
        append_assoc,
        drop_at (take place before) (content ++ drop (place + length content) before) place (length-take-le place before (omega arith)),
      ) (take-append_seam content _)

  pub words_are : (first end : ℕ) → first / 2 ≡ place → end ≡ (place + length content) * 2 → words_between (written before place content) first end ≡ content
  words_are first end from to =
      let half : end / 2 ≡ place + length content = omega arith in
      let many : place + length content - place ≡ length content = omega arith in
      let long = written_length before place content fits in
      rw (from, half, le-leb place (place + length content) (omega arith), le-leb (place + length content) (length (written before place content)) (omega arith), many)
      stretch_is
