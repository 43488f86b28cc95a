use Rattle.std.proofs.Common.{◌+◌, ◌≤◌, false, length, List, []}
use Rattle.js_tree.specs.declared.Case as clause
use Rattle.script_grammar.specs.Rules.Symbol.{Clauses}
use Rattle.script_grammar.specs.Meets.{Continues}
use Rattle.script_rows.proofs.switches.clauses.Given as goal

abbrev pub invariant-loop-case : goal.invariant-loop-case
invariant-loop-case g l = record { so_far : Continues (List clause.Case) l.base (Clauses l.around l.stood l.all) (Clauses l.around false []) (λ v. v) (λ v. v) l.tall l.left l.tokens; small : l.base + l.tall ≤ 200 }

abbrev pub decreases-loop-case : goal.decreases-loop-case
decreases-loop-case g l = length l.left
