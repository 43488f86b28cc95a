use Rattle.std.proofs.Common.{◌≡◌, ◌≤◌, reverse, length}
use Rattle.turk_base.specs.Conversions as spec
use Rattle.convert_rules.proofs.literals.trim_end.Given as goal

abbrev pub invariant-loop-rest : goal.invariant-loop-rest
invariant-loop-rest l = (spec.trim_front (reverse l.rest) ≡ spec.trim_front (reverse l.fn.units)) × (length l.rest ≤ length l.fn.units)

abbrev pub decreases-loop-rest : goal.decreases-loop-rest
decreases-loop-rest l = length l.rest
