-- Each turn adds a unit below those that the rows have.
use Prim.Native.Nat.{◌-◌, ◌≤◌}
use native.Mathlib.Omega.{arith}
use Rattle.cells.specs.Laws.RangeLaws.{in_range_says, fitted}
use Rattle.laws.specs.Laws.Fields.{bit_lt}
use Rattle.service.specs.Laws.Rows.{no_row, row_grows, whole_row}
use Rattle.service.proofs.wants.mask_by.Goals as goal

pub count-units-requires : goal.count-units-requires
count-units-requires g c = (in_range_says c.args.cells.now c.requires).header

pub loop-unit-init : goal.loop-unit-init
loop-unit-init g c =
    let cells = c.args.cells.now in
    let units = c.count-units.result in
    let few : units ≤ 16 = omega (arith, c.count-units.ensures, (in_range_says cells c.requires).most) in
    (omega arith, c.count-units.ensures, few, no_row (g.A.Asked.sends cells) units few, no_row (g.A.Asked.receives cells) units few)

pub overflow_mul-senders : goal.overflow_mul-senders
overflow_mul-senders g c = omega (arith, c.loop-unit.invariant.3.fits)

pub of_transmitter-requires : goal.of_transmitter-requires
of_transmitter-requires g c =
    let l = c.loop-unit in
    fitted c.args.cells.now c.requires (l.unit - 1) (omega (arith, l.invariant.0, l.invariant.1))

pub overflow_add-senders : goal.overflow_add-senders
overflow_add-senders g c = omega (arith, bit_lt c.of_transmitter.result, c.loop-unit.invariant.3.fits)

pub overflow_mul-receivers : goal.overflow_mul-receivers
overflow_mul-receivers g c = omega (arith, c.loop-unit.invariant.4.fits)

pub of_receiver-requires : goal.of_receiver-requires
of_receiver-requires g c =
    let l = c.loop-unit in
    fitted c.args.cells.now c.requires (l.unit - 1) (omega (arith, l.invariant.0, l.invariant.1))

pub overflow_add-receivers : goal.overflow_add-receivers
overflow_add-receivers g c = omega (arith, bit_lt c.of_receiver.result, c.loop-unit.invariant.4.fits)

pub loop-unit-preserved : goal.loop-unit-preserved
loop-unit-preserved g c =
    let l = c.loop-unit in
    let some = c.loop-unit-test.true in
    let i = l.invariant in
    let cells = c.args.cells.now in
    let units = c.count-units.result in (
      omega arith,
      i.1,
      i.2,
      row_grows (g.A.Asked.sends cells) units l.unit l.senders c.of_transmitter.result i.2 some i.0 i.3 c.of_transmitter.ensures,
      row_grows (g.A.Asked.receives cells) units l.unit l.receivers c.of_receiver.result i.2 some i.0 i.4 c.of_receiver.ensures,
    )

pub overflow_mul-result : goal.overflow_mul-result
overflow_mul-result g c = omega (arith, c.loop-unit.invariant.4.fits)

pub overflow_add-result : goal.overflow_add-result
overflow_add-result g c = omega (arith, c.loop-unit.invariant.3.fits, c.loop-unit.invariant.4.fits)

pub returns : goal.returns
returns g c =
    let l = c.loop-unit in
    let i = l.invariant in
    let cells = c.args.cells.now in
    let units = c.count-units.result in
    rw (whole_row (g.A.Asked.sends cells) units l.unit l.senders (omega arith) i.3, whole_row (g.A.Asked.receives cells) units l.unit l.receivers (omega arith) i.4, i.1)
