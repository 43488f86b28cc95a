use Rattle.std.proofs.Common.{◌≡◌, ◌≤◌, ◌^◌, true, drop}
use Rattle.turk_base.specs.Conversions.{every, hex_digit, value_onto}
use Rattle.convert_rules.proofs.literals.value.Given as goal

abbrev pub invariant-loop-unit : goal.invariant-loop-unit
invariant-loop-unit l = (l.value ≤ 2 ^ 53) × (every hex_digit (drop l.unit-index l.units) ≡ true) × (value_onto l.base l.value (drop l.unit-index l.units) ≡ value_onto l.base 0 l.units)
