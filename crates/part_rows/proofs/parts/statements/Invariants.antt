use Rattle.std.proofs.Common.{◌+◌, ◌≤◌, length, List, []}
use Rattle.js_tree.specs.declared.Stmt.{Stmt}
use Rattle.script_grammar.specs.Rules.Symbol.{Statements}
use Rattle.script_grammar.specs.Meets.{Continues}
use Rattle.part_rows.proofs.parts.statements.Given as goal

abbrev pub invariant-loop-token : goal.invariant-loop-token
invariant-loop-token g l = record { so_far : Continues (List Stmt) l.base (Statements l.around l.all) (Statements l.around []) (λ v. v) (λ v. v) l.tall l.left l.tokens; small : l.base + l.tall ≤ 200 }

abbrev pub decreases-loop-token : goal.decreases-loop-token
decreases-loop-token g l = length l.left
