use Rattle.std.proofs.Common.{◌≡◌, ◌≤◌}
use lib.Bits.{bit_xor}
use Rattle.words.specs.Laws.CrcSteps.{steps}
use Rattle.words.proofs.crc.crc_with_word.Given as goal

abbrev pub invariant-loop : goal.invariant-loop
invariant-loop l = (l.counter ≤ 16) × (l.register ≡ steps l.counter (bit_xor l.crc l.word))
