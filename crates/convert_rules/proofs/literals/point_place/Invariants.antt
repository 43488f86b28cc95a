use Rattle.std.proofs.Common.{◌≡◌, ◌++◌, take, drop}
use Rattle.std.specs.Prelude.{◌==◌}
use Rattle.turk_base.specs.Conversions.{before, after}
use Rattle.convert_rules.proofs.literals.point_place.Given as goal

abbrev pub invariant-loop-place : goal.invariant-loop-place
invariant-loop-place l = (before (◌== 46) l.units ≡ take l.place l.units ++ before (◌== 46) (drop l.place l.units)) × (after (◌== 46) l.units ≡ after (◌== 46) (drop l.place l.units))
