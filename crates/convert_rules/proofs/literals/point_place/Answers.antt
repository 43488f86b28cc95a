use Rattle.std.proofs.Common.{refl}
use Rattle.std.specs.Prelude.{◌==◌}
use Rattle.convert_rules.proofs.Texts.{cut_found}
use Rattle.convert_rules.proofs.literals.point_place.Goals as goal

pub returns-then-units-place-eq46 : goal.returns-then-units-place-eq46
returns-then-units-place-eq46 c =
    cut_found (◌== 46) c.args.units.now c.loop-place.place c.loop-place-test.true (rw c.if-units-place-eq46.true refl) c.loop-place.invariant.0 c.loop-place.invariant.1
