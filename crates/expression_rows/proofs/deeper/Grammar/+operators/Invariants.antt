use Rattle.std.proofs.Common.{◌+◌, ◌-◌, ◌*◌}
use Rattle.expression_rows.proofs.deeper.Grammar.+operators.Given as goal

-- the levels that are left, twice: an operand stands one deeper than its operator
abbrev pub decreases-unary : goal.decreases-unary
decreases-unary g l = 2 * (201 - l.base) + 1

abbrev pub decreases-beneath : goal.decreases-beneath
decreases-beneath g l = 2 * (201 - l.base)

abbrev pub decreases-delete : goal.decreases-delete
decreases-delete g l = 2 * (201 - l.base)
