use Rattle.std.proofs.Common.{◌-◌}
use Rattle.expression_rows.proofs.deeper.Grammar.+suffixes.Given as goal

-- each part makes the operand higher
abbrev pub decreases-suffixes : goal.decreases-suffixes
decreases-suffixes g l = 201 - l.height
