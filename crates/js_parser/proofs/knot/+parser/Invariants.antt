-- An expression reads its first part at its own depth; all else is read deeper.
use Rattle.std.proofs.Common.{◌+◌, ◌-◌, ◌*◌}
use Rattle.js_parser.proofs.knot.+parser.Given as goal

abbrev pub decreases-assignment : goal.decreases-assignment
decreases-assignment l = 2 * (201 - l.base)

abbrev pub decreases-expression : goal.decreases-expression
decreases-expression l = 2 * (201 - l.base) + 1

abbrev pub decreases-body : goal.decreases-body
decreases-body l = 2 * (201 - l.base)

abbrev pub decreases-statement : goal.decreases-statement
decreases-statement l = 2 * (201 - l.base)
