use Rattle.std.proofs.Common.{◌≡◌, ◌++◌, take, drop}
use Rattle.turk_base.specs.Conversions.{before, after, exponent_mark}
use Rattle.convert_rules.proofs.literals.exponent_place.Given as goal

abbrev pub invariant-loop-place : goal.invariant-loop-place
invariant-loop-place l = (before exponent_mark l.units ≡ take l.place l.units ++ before exponent_mark (drop l.place l.units)) × (after exponent_mark l.units ≡ after exponent_mark (drop l.place l.units))
