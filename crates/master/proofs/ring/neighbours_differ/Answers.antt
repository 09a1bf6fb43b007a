-- The loop: the addresses from the next one on, after `previous`, differ where the whole ring's do.
use Rattle.std.proofs.Common.{◌≡◌, ◌≤◌, ◌<◌, length, get_or, ap, sym, ◌∙◌, arith}
use Rattle.master.specs.Ring.{address, addresses_in}
use Rattle.std.proofs.lemmas.List.{length-map}
use Rattle.silos.specs.Silo.{words}
use Rattle.master.specs.Laws.RingLaws.{address_at}
use Rattle.master.proofs.Around.{same, other, none_left}
use Rattle.master.proofs.ring.neighbours_differ.Goals as goal

pub returns-then-address-previous : goal.returns-then-address-previous
returns-then-address-previous c =
    let l = c.loop-word in
    let silo = c.args.silo in
    let e : get_or (addresses_in silo) l.word-index 0 ≡ l.previous =
    address_at silo l.word-index ∙ rw (← c.words-word-items.ensures) c.if-address-previous.true in
    let h : l.word-index < length (addresses_in silo) = omega (arith, length-map (words silo) address, ap length c.words-word-items.ensures, c.loop-word-test.true) in
    sym (same l.previous (addresses_in silo) l.word-index h e) ∙ l.invariant

pub loop-word-preserved : goal.loop-word-preserved
loop-word-preserved c =
    let l = c.loop-word in
    let silo = c.args.silo in
    let e : get_or (addresses_in silo) l.word-index 0 ≡ address (get_or c.words-word-items.result.now l.word-index 0) =
    address_at silo l.word-index ∙ ap (λ ws. address (get_or ws l.word-index 0)) (sym c.words-word-items.ensures) in
    let h : l.word-index < length (addresses_in silo) = omega (arith, length-map (words silo) address, ap length c.words-word-items.ensures, c.loop-word-test.true) in
    rw (← e) (sym (other l.previous (addresses_in silo) l.word-index h (λ q. c.if-address-previous.false (sym e ∙ q))) ∙ l.invariant)

pub returns : goal.returns
returns c =
    let l = c.loop-word in
    let silo = c.args.silo in
    let h : length (addresses_in silo) ≤ l.word-index = omega (arith, length-map (words silo) address, ap length c.words-word-items.ensures, c.loop-word-test.false) in
    sym (none_left l.previous (addresses_in silo) l.word-index h) ∙ l.invariant
