use Rattle.std.proofs.Common.{◌≡◌, take}
use Rattle.js_tree.specs.declared.Case.{out-Case}
use Rattle.js_tree.specs.Calls.{gather, variables_to}
use Rattle.scope_names.specs.Gathered.{gathered}
use Rattle.scope_names.proofs.hoist.+hoist.Given as goal

abbrev pub invariant-in_all-loop-stmt : goal.invariant-in_all-loop-stmt
invariant-in_all-loop-stmt l = l.all ≡ gathered l.fn.names (gather (variables_to l.left) (take l.stmt-index l.stmts))

abbrev pub invariant-in_cases-loop-case : goal.invariant-in_cases-loop-case
invariant-in_cases-loop-case l = l.all ≡ gathered l.fn.names (gather (λ c. gather (variables_to l.left) (out-Case c).statements) (take l.case-index l.cases))
