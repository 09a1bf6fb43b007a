-- The loop: after `counter` turns the register has made that many steps from the word put in. Of the needs only three are more than
-- arithmetic.
use Rattle.std.proofs.Common.{◌≡◌, refl, ap, add-one, arith}
use Rattle.words.specs.Laws.CrcSteps.{steps, step}
use Rattle.words.proofs.CrcCode.{word_in}
use Rattle.words.proofs.crc.crc_with_word.Goals as goal

pub loop-init : goal.loop-init
unfolding steps
loop-init c = (omega arith, refl)

pub loop-preserved : goal.loop-preserved
unfolding steps
loop-preserved c = (omega arith, rw (add-one, c.shift-register.ensures) (ap step c.loop.invariant.1))

pub returns : goal.returns
returns c =
    let e : c.loop.counter ≡ 16 = omega arith in
    rw (c.loop.invariant.1, e) (word_in _ _ c.ranges.word.fits)
