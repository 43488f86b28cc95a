use Rattle.std.proofs.Common.{sym, arith}
use Rattle.run_heap.proofs.Index_keys.{bad_start, good_start, low_digits}
use Rattle.run_heap.proofs.classes.class.Goals as goal

pub returns-then-not-begins_well : goal.returns-then-not-begins_well
returns-then-not-begins_well c = bad_start c.args.key.now c.begins_well.result c.begins_well.ensures c.if-not-begins_well.true

pub loop-unit-init : goal.loop-unit-init
loop-unit-init c = (omega arith, good_start c.args.key.now c.begins_well.result c.begins_well.ensures c.if-not-begins_well.false)

pub returns-then-number-ge4294967295 : goal.returns-then-number-ge4294967295
returns-then-number-ge4294967295 c =
    low_digits c.loop-unit.number c.args.key.now c.loop-unit.unit-index c.loop-unit-test.true (omega (arith, c.if-unit-lt48.false)) (omega (arith, c.if-unit-gt57.false)) (omega (arith, c.if-number-ge4294967295.true))
    c.loop-unit.invariant.1
