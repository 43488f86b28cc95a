use Rattle.std.proofs.Common.{◌≡◌, ◌∙◌, ap, sym, subst, ◌++◌, ◌∷◌, [], ◌-◌}
use Rattle.std.specs.Prelude.{IfOk}
use Rattle.js_tree.specs.declared.ExprNode.{out-ExprNode}
use Rattle.js_tree.specs.declared.StmtNode.{out-StmtNode}
use Rattle.js_tree.specs.declared.Declaration.{Declaration}
use Rattle.js_tree.specs.declared.Field.{Field, out-Field}
use Rattle.js_tree.specs.declared.Variable.{Variable, out-Variable}
use Rattle.js_tree.specs.Trees.{declared_parameters, declared_body}
use Rattle.js_tree.specs.Table.{all_in, if_there, in_case, in_expr, in_stmt, in_script, expr_codes, stmt_codes, body_codes}
use Rattle.tree_rows.specs.Codes.{table_in}
use Rattle.code_table.proofs.Listed.{all_next, take_whole, expr_step, stmt_step, body_step, expr_end, stmt_end, body_end, nothing_more, more_same, then_codes}
use Rattle.code_table.proofs.codes.+codes.Goals as goal

pub in_expr-returns : goal.in_expr-returns
in_expr-returns t c =
    subst (λ ys. IfOk c.in_expr_node.result (λ made. table_in made ≡ table_in c.args.codes ++ ys))
    (sym (expr_step c.args.left c.args.e.now c.if-left-eq0.false
    ∙ ap (λ n. in_expr (expr_codes (c.args.left - 1)) (stmt_codes (c.args.left - 1)) (body_codes (c.args.left - 1)) (out-ExprNode n)) (sym c.node.ensures))) c.in_expr_node.ensures

pub in_stmt-returns : goal.in_stmt-returns
in_stmt-returns t c =
    subst (λ ys. IfOk c.in_stmt_node.result (λ made. table_in made ≡ table_in c.args.codes ++ ys))
    (sym (stmt_step c.args.left c.args.s.now c.if-left-eq0.false
    ∙ ap (λ n. in_stmt (expr_codes (c.args.left - 1)) (stmt_codes (c.args.left - 1)) (body_codes (c.args.left - 1)) (out-StmtNode n)) (sym c.node.ensures))) c.in_stmt_node.ensures

pub in_exprs-loop-e-preserved : goal.in_exprs-loop-e-preserved
in_exprs-loop-e-preserved t c = all_next (expr_codes c.args.left) _ _ _ _ _ _ c.loop-e-test.true c.e-item.is c.loop-e.invariant c.in_ok-all.ensures

pub in_exprs-returns : goal.in_exprs-returns
in_exprs-returns t c = c.loop-e.invariant ∙ ap (λ l. table_in c.args.codes ++ all_in (expr_codes c.args.left) l) (take_whole _ _ c.loop-e-test.false)

pub in_fields-loop-field-preserved : goal.in_fields-loop-field-preserved
in_fields-loop-field-preserved t c =
    all_next (λ (x : Field). expr_codes c.args.left (out-Field x).value) _ _ _ _ _ _ c.loop-field-test.true c.field-item.is c.loop-field.invariant c.in_ok-all.ensures

pub in_fields-returns : goal.in_fields-returns
in_fields-returns t c =
    c.loop-field.invariant ∙ ap (λ l. table_in c.args.codes ++ all_in (λ (x : Field). expr_codes c.args.left (out-Field x).value) l) (take_whole _ _ c.loop-field-test.false)

pub in_stmts-loop-s-preserved : goal.in_stmts-loop-s-preserved
in_stmts-loop-s-preserved t c = all_next (stmt_codes c.args.left) _ _ _ _ _ _ c.loop-s-test.true c.s-item.is c.loop-s.invariant c.in_ok-all.ensures

pub in_stmts-returns : goal.in_stmts-returns
in_stmts-returns t c = c.loop-s.invariant ∙ ap (λ l. table_in c.args.codes ++ all_in (stmt_codes c.args.left) l) (take_whole _ _ c.loop-s-test.false)

pub in_cases-loop-case-preserved : goal.in_cases-loop-case-preserved
in_cases-loop-case-preserved t c =
    all_next (in_case (expr_codes c.args.left) (stmt_codes c.args.left) (body_codes c.args.left)) _ _ _ _ _ _ c.loop-case-test.true c.case-item.is c.loop-case.invariant c.in_ok-all.ensures

pub in_cases-returns : goal.in_cases-returns
in_cases-returns t c =
    c.loop-case.invariant
    ∙ ap (λ l. table_in c.args.codes ++ all_in (in_case (expr_codes c.args.left) (stmt_codes c.args.left) (body_codes c.args.left)) l) (take_whole _ _ c.loop-case-test.false)

pub in_variables-loop-variable-preserved : goal.in_variables-loop-variable-preserved
in_variables-loop-variable-preserved t c =
    all_next (λ (x : Variable). if_there (expr_codes c.args.left) (out-Variable x).value) _ _ _ _ _ _ c.loop-variable-test.true c.variable-item.is c.loop-variable.invariant c.in_ok-all.ensures

pub in_variables-returns : goal.in_variables-returns
in_variables-returns t c =
    c.loop-variable.invariant
    ∙ ap (λ l. table_in c.args.codes ++ all_in (λ (x : Variable). if_there (expr_codes c.args.left) (out-Variable x).value) l) (take_whole _ _ c.loop-variable-test.false)

pub in_declarations-loop-declaration-preserved : goal.in_declarations-loop-declaration-preserved
in_declarations-loop-declaration-preserved t c =
    all_next (λ (d : Declaration). body_codes c.args.left (declared_parameters d) (declared_body d)) _ _ _ _ _ _ c.loop-declaration-test.true c.declaration-item.is c.loop-declaration.invariant
    (more_same _ _ _ _ c.in_ok-all.ensures (λ i. body_codes c.args.left (c.parameters.ensures i) (c.body.ensures i)))

pub in_declarations-returns : goal.in_declarations-returns
in_declarations-returns t c =
    c.loop-declaration.invariant
    ∙ ap (λ l. table_in c.args.codes ++ all_in (λ (d : Declaration). body_codes c.args.left (declared_parameters d) (declared_body d)) l) (take_whole _ _ c.loop-declaration-test.false)

pub in_expr-returns-then-left-eq0 : goal.in_expr-returns-then-left-eq0
in_expr-returns-then-left-eq0 t c = nothing_more _ _ (expr_end c.args.left c.args.e.now c.if-left-eq0.true)

pub in_stmt-returns-then-left-eq0 : goal.in_stmt-returns-then-left-eq0
in_stmt-returns-then-left-eq0 t c = nothing_more _ _ (stmt_end c.args.left c.args.s.now c.if-left-eq0.true)

pub in_body-returns-then-left-eq0 : goal.in_body-returns-then-left-eq0
in_body-returns-then-left-eq0 t c = nothing_more _ _ (body_end c.args.left c.args.parameters.now c.args.body.now c.if-left-eq0.true)

pub in_body-returns : goal.in_body-returns
in_body-returns t c =
    then_codes c.in_script.result _ _ (record { parameters = c.args.parameters.now; body = c.args.body.now } ∷ [])
    (in_script (expr_codes (c.args.left - 1)) (stmt_codes (c.args.left - 1)) (body_codes (c.args.left - 1)) c.args.body.now) _
    (more_same _ _ _ _ c.in_ok-codes.ensures (ap (λ k. k ∷ []) c.in_ok-code.ensures))
    (body_step c.args.left c.args.parameters.now c.args.body.now c.if-left-eq0.false) c.in_script.ensures

pub in_script-returns : goal.in_script-returns
in_script-returns t c =
    then_codes c.in_stmts.result _ _ (all_in (λ (d : Declaration). body_codes c.args.left (declared_parameters d) (declared_body d)) c.functions.result.now)
    (all_in (stmt_codes c.args.left) c.statements.result.now) _ c.in_ok-codes.ensures
    (λ i. all_in (λ (d : Declaration). body_codes c.args.left (declared_parameters d) (declared_body d)) (sym c.functions.ensures i) ++ all_in (stmt_codes c.args.left) (sym c.statements.ensures i))
    c.in_stmts.ensures
