-- A refusal's number is one of 1 to 9.
-- Assumes nothing.
use Rattle.std.specs.Prelude.{◌<◌, ◌≤◌}
use Rattle.std.proofs.Common.{arith}
use Rattle.words.specs.Answers.{number_of}
use Rattle.words.specs.declared.answers.Refusal.{Refusal}

pub refused_some : (refusal : Refusal) → 0 < number_of refusal
refused_some Refusal.NoUnit = omega arith
refused_some Refusal.NoRegister = omega arith
refused_some Refusal.ByteRefused = omega arith
refused_some Refusal.Nothing = omega arith
refused_some Refusal.BadSetUp = omega arith
refused_some Refusal.BadMask = omega arith
refused_some Refusal.NoRoom = omega arith
refused_some Refusal.BadState = omega arith

pub refused_le : (refusal : Refusal) → number_of refusal ≤ 9
refused_le Refusal.NoUnit = omega arith
refused_le Refusal.NoRegister = omega arith
refused_le Refusal.ByteRefused = omega arith
refused_le Refusal.Nothing = omega arith
refused_le Refusal.BadSetUp = omega arith
refused_le Refusal.BadMask = omega arith
refused_le Refusal.NoRoom = omega arith
refused_le Refusal.BadState = omega arith
