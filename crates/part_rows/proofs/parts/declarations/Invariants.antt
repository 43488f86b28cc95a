use Rattle.std.proofs.Common.{◌+◌, ◌≤◌, length, List}
use Rattle.js_tree.specs.declared.Variable as variable
use Rattle.script_grammar.specs.Rules.Symbol.{Decls}
use Rattle.script_grammar.specs.Meets.{Continues}
use Rattle.part_rows.proofs.parts.declarations.Given as goal

abbrev pub invariant-loop-one : goal.invariant-loop-one
invariant-loop-one g l = record { so_far : Continues (List variable.Variable) l.base (Decls l.no_in l.all) (Decls l.no_in l.fn.so_far) (λ v. v) (λ v. v) l.tall l.left l.tokens; small : l.base + l.tall ≤ 200 }

abbrev pub decreases-loop-one : goal.decreases-loop-one
decreases-loop-one g l = length l.left
