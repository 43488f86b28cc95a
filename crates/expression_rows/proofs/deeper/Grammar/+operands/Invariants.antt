use Rattle.std.proofs.Common.{◌+◌, ◌-◌, ◌*◌}
use Rattle.expression_rows.proofs.deeper.Grammar.+operands.Given as goal

-- the levels that are left, twice: the callee of `new` stands one deeper
abbrev pub decreases-operand : goal.decreases-operand
decreases-operand g l = 2 * (201 - l.base) + 1

abbrev pub decreases-new : goal.decreases-new
decreases-new g l = 2 * (201 - l.base)
