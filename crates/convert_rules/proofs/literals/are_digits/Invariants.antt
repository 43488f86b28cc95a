use Rattle.std.proofs.Common.{◌≡◌, drop}
use Rattle.turk_base.specs.Conversions.{every, digit}
use Rattle.convert_rules.proofs.literals.are_digits.Given as goal

abbrev pub invariant-loop-unit : goal.invariant-loop-unit
invariant-loop-unit l = every digit (drop l.unit-index l.units) ≡ every digit l.units
