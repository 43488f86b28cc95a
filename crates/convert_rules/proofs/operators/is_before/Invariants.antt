use Rattle.std.proofs.Common.{◌≡◌, length}
use Rattle.turk_base.specs.Operators.{units_less}
use Rattle.convert_rules.proofs.operators.is_before.Given as goal

abbrev pub invariant-loop-y : goal.invariant-loop-y
invariant-loop-y l = units_less l.x l.y ≡ units_less l.fn.a l.fn.b

abbrev pub decreases-loop-y : goal.decreases-loop-y
decreases-loop-y l = length l.x
