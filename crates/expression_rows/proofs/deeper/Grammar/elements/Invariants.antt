use Rattle.std.proofs.Common.{◌+◌, ◌≤◌, length}
use Rattle.script_grammar.proofs.Repeated.{SoItems}
use Rattle.expression_rows.proofs.deeper.Grammar.elements.Given as goal

abbrev pub invariant-loop-one : goal.invariant-loop-one
invariant-loop-one g l = record { so_far : SoItems l.base l.all l.tall l.left l.tokens; small : l.base + l.tall ≤ 200 }

abbrev pub decreases-loop-one : goal.decreases-loop-one
decreases-loop-one g l = length l.left
