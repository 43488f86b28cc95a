use Rattle.std.proofs.Common.{◌+◌, ◌≤◌, length, []}
use Rattle.js_tree.specs.declared.Script as script
use Rattle.script_grammar.specs.Rules.Symbol.{Elements}
use Rattle.script_grammar.specs.Meets.{Continues}
use Rattle.script_rows.proofs.lists.elements.Given as goal

abbrev pub invariant-loop-token : goal.invariant-loop-token
invariant-loop-token g l = record { so_far : Continues script.Script l.base (Elements l.in_function l.functions l.statements) (Elements l.in_function [] []) (λ v. v) (λ v. v) l.tall l.left l.tokens; small : l.base + l.tall ≤ 200 }

abbrev pub decreases-loop-token : goal.decreases-loop-token
decreases-loop-token g l = length l.left
