use Rattle.std.proofs.Common.{◌-◌}
use Rattle.expression_rows.proofs.deeper.Grammar.+deleted.Given as goal

-- each part makes the operand higher
abbrev pub decreases-deleted : goal.decreases-deleted
decreases-deleted g l = 201 - l.height
