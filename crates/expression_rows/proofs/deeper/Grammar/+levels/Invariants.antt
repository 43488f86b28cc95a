use Rattle.std.proofs.Common.{◌+◌, ◌-◌, ◌*◌}
use Rattle.expression_rows.proofs.deeper.Grammar.+levels.Given as goal

-- a level stands above the operators of it, and these fall as the left operand grows
abbrev pub decreases-binary : goal.decreases-binary
decreases-binary g l = 1000 * l.level + 500

abbrev pub decreases-more : goal.decreases-more
decreases-more g l = 1000 * l.level + (2 * (201 - l.height) + 1)

abbrev pub decreases-operation : goal.decreases-operation
decreases-operation g l = 1000 * l.level + 2 * (201 - l.height)
