use Rattle.std.proofs.Common.{arith}
use Rattle.convert_rules.proofs.Texts.{past}
use Rattle.convert_rules.proofs.literals.value.Goals as goal

pub returns-then-value-gt-GREATEST : goal.returns-then-value-gt-GREATEST
returns-then-value-gt-GREATEST c =
    past c.args.base c.loop-unit.value c.loop-unit.unit-index c.args.units.now c.requires.low c.loop-unit-test.true c.loop-unit.invariant.2 (omega (arith, c.if-value-gt-GREATEST.true, c.digit_value.ensures.value))
