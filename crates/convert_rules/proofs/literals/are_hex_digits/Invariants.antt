use Rattle.std.proofs.Common.{◌≡◌, drop}
use Rattle.turk_base.specs.Conversions.{every, hex_digit}
use Rattle.convert_rules.proofs.literals.are_hex_digits.Given as goal

abbrev pub invariant-loop-unit : goal.invariant-loop-unit
invariant-loop-unit l = every hex_digit (drop l.unit-index l.units) ≡ every hex_digit l.units
