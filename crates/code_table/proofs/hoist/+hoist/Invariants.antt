use Rattle.std.proofs.Common.{◌≡◌, take, ◌++◌, ◌+◌, ◌*◌}
use Rattle.js_tree.specs.declared.Case.{out-Case}
use Rattle.js_tree.specs.Calls.{gather, variables_to}
use Rattle.code_table.proofs.hoist.+hoist.Given as goal

abbrev pub invariant-in_all-loop-stmt : goal.invariant-in_all-loop-stmt
invariant-in_all-loop-stmt l = l.all.items ≡ l.fn.names.items ++ gather (variables_to l.left) (take l.stmt-index l.stmts)

abbrev pub invariant-in_cases-loop-case : goal.invariant-in_cases-loop-case
invariant-in_cases-loop-case l = l.all.items ≡ l.fn.names.items ++ gather (λ c. gather (variables_to l.left) (out-Case c).statements) (take l.case-index l.cases)

abbrev pub decreases-in_node : goal.decreases-in_node
decreases-in_node l = l.left * 8 + 5

abbrev pub decreases-in_if : goal.decreases-in_if
decreases-in_if l = l.left * 8 + 4

abbrev pub decreases-in_for : goal.decreases-in_for
decreases-in_for l = l.left * 8 + 4

abbrev pub decreases-in_for_in : goal.decreases-in_for_in
decreases-in_for_in l = l.left * 8 + 4

abbrev pub decreases-in_try : goal.decreases-in_try
decreases-in_try l = l.left * 8 + 4

abbrev pub decreases-in_cases : goal.decreases-in_cases
decreases-in_cases l = l.left * 8 + 3

abbrev pub decreases-in_all : goal.decreases-in_all
decreases-in_all l = l.left * 8 + 2

abbrev pub decreases-in_option : goal.decreases-in_option
decreases-in_option l = l.left * 8 + 1

abbrev pub decreases-in_catch : goal.decreases-in_catch
decreases-in_catch l = l.left * 8 + 1

abbrev pub decreases-in_start : goal.decreases-in_start
decreases-in_start l = l.left * 8 + 1

abbrev pub decreases-in_stmt : goal.decreases-in_stmt
decreases-in_stmt l = l.left * 8
