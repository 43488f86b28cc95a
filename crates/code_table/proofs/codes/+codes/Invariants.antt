use Rattle.std.proofs.Common.{◌≡◌, take, ◌++◌, ◌+◌, ◌*◌}
use Rattle.js_tree.specs.declared.Field.{out-Field}
use Rattle.js_tree.specs.declared.Variable.{out-Variable}
use Rattle.js_tree.specs.Trees.{declared_parameters, declared_body}
use Rattle.js_tree.specs.Table.{all_in, if_there, in_case, expr_codes, stmt_codes, body_codes}
use Rattle.tree_rows.specs.Codes.{table_in}
use Rattle.code_table.proofs.codes.+codes.Given as goal

abbrev pub invariant-in_exprs-loop-e : goal.invariant-in_exprs-loop-e
invariant-in_exprs-loop-e l = table_in l.all ≡ table_in l.fn.codes ++ all_in (expr_codes l.left) (take l.e-index l.list)

abbrev pub invariant-in_fields-loop-field : goal.invariant-in_fields-loop-field
invariant-in_fields-loop-field l = table_in l.all ≡ table_in l.fn.codes ++ all_in (λ x. expr_codes l.left (out-Field x).value) (take l.field-index l.fields)

abbrev pub invariant-in_cases-loop-case : goal.invariant-in_cases-loop-case
invariant-in_cases-loop-case l = table_in l.all ≡ table_in l.fn.codes ++ all_in (in_case (expr_codes l.left) (stmt_codes l.left) (body_codes l.left)) (take l.case-index l.cases)

abbrev pub invariant-in_stmts-loop-s : goal.invariant-in_stmts-loop-s
invariant-in_stmts-loop-s l = table_in l.all ≡ table_in l.fn.codes ++ all_in (stmt_codes l.left) (take l.s-index l.stmts)

abbrev pub invariant-in_variables-loop-variable : goal.invariant-in_variables-loop-variable
invariant-in_variables-loop-variable l = table_in l.all ≡ table_in l.fn.codes ++ all_in (λ x. if_there (expr_codes l.left) (out-Variable x).value) (take l.variable-index l.variables)

abbrev pub invariant-in_declarations-loop-declaration : goal.invariant-in_declarations-loop-declaration
invariant-in_declarations-loop-declaration l =
    table_in l.all ≡ table_in l.fn.codes ++ all_in (λ d. body_codes l.left (declared_parameters d) (declared_body d)) (take l.declaration-index l.declarations)

abbrev pub decreases-in_stmt_node : goal.decreases-in_stmt_node
decreases-in_stmt_node l = l.left * 8 + 5

abbrev pub decreases-in_expr_node : goal.decreases-in_expr_node
decreases-in_expr_node l = l.left * 8 + 5

abbrev pub decreases-in_switch : goal.decreases-in_switch
decreases-in_switch l = l.left * 8 + 4

abbrev pub decreases-in_cases : goal.decreases-in_cases
decreases-in_cases l = l.left * 8 + 3

abbrev pub decreases-in_case : goal.decreases-in_case
decreases-in_case l = l.left * 8 + 2

abbrev pub decreases-in_three : goal.decreases-in_three
decreases-in_three l = l.left * 8 + 2

abbrev pub decreases-in_member : goal.decreases-in_member
decreases-in_member l = l.left * 8 + 2

abbrev pub decreases-in_call : goal.decreases-in_call
decreases-in_call l = l.left * 8 + 2

abbrev pub decreases-in_if : goal.decreases-in_if
decreases-in_if l = l.left * 8 + 2

abbrev pub decreases-in_for_head : goal.decreases-in_for_head
decreases-in_for_head l = l.left * 8 + 2

abbrev pub decreases-in_for_in : goal.decreases-in_for_in
decreases-in_for_in l = l.left * 8 + 2

abbrev pub decreases-in_try : goal.decreases-in_try
decreases-in_try l = l.left * 8 + 2

abbrev pub decreases-in_script : goal.decreases-in_script
decreases-in_script l = l.left * 8 + 2

abbrev pub decreases-in_option : goal.decreases-in_option
decreases-in_option l = l.left * 8 + 1

abbrev pub decreases-in_option_stmt : goal.decreases-in_option_stmt
decreases-in_option_stmt l = l.left * 8 + 1

abbrev pub decreases-in_catch : goal.decreases-in_catch
decreases-in_catch l = l.left * 8 + 1

abbrev pub decreases-in_start : goal.decreases-in_start
decreases-in_start l = l.left * 8 + 1

abbrev pub decreases-in_target : goal.decreases-in_target
decreases-in_target l = l.left * 8 + 1

abbrev pub decreases-in_key : goal.decreases-in_key
decreases-in_key l = l.left * 8 + 1

abbrev pub decreases-in_exprs : goal.decreases-in_exprs
decreases-in_exprs l = l.left * 8 + 1

abbrev pub decreases-in_fields : goal.decreases-in_fields
decreases-in_fields l = l.left * 8 + 1

abbrev pub decreases-in_stmts : goal.decreases-in_stmts
decreases-in_stmts l = l.left * 8 + 1

abbrev pub decreases-in_variables : goal.decreases-in_variables
decreases-in_variables l = l.left * 8 + 2

abbrev pub decreases-in_declarations : goal.decreases-in_declarations
decreases-in_declarations l = l.left * 8 + 1

abbrev pub decreases-in_two : goal.decreases-in_two
decreases-in_two l = l.left * 8 + 1

abbrev pub decreases-in_while : goal.decreases-in_while
decreases-in_while l = l.left * 8 + 1

abbrev pub decreases-in_do_while : goal.decreases-in_do_while
decreases-in_do_while l = l.left * 8 + 1

abbrev pub decreases-in_stmt : goal.decreases-in_stmt
decreases-in_stmt l = l.left * 8

abbrev pub decreases-in_expr : goal.decreases-in_expr
decreases-in_expr l = l.left * 8

abbrev pub decreases-in_body : goal.decreases-in_body
decreases-in_body l = l.left * 8
