use Rattle.std.proofs.Common.{◌≡◌, ◌∙◌, ap, sym, subst, ◌++◌, ◌-◌}
use Rattle.std.specs.Prelude.{IfOk}
use Rattle.js_tree.specs.declared.StmtNode.{out-StmtNode}
use Rattle.js_tree.specs.declared.Case.{Case, out-Case}
use Rattle.js_tree.specs.Calls.{gather, variables_to, variables_of}
use Rattle.code_table.proofs.Listed.{gather_next, take_whole, variables_step, more_same}
use Rattle.code_table.proofs.hoist.+hoist.Goals as goal

pub in_stmt-returns : goal.in_stmt-returns
in_stmt-returns t c =
    subst (λ ys. IfOk c.in_node.result (λ made. made.items ≡ c.args.names.items ++ ys))
    (sym (variables_step c.args.left c.args.stmt.now c.if-left-eq0.false ∙ ap (λ n. variables_of (variables_to (c.args.left - 1)) (out-StmtNode n)) (sym c.node.ensures))) c.in_node.ensures

pub in_all-loop-stmt-preserved : goal.in_all-loop-stmt-preserved
in_all-loop-stmt-preserved t c = gather_next (variables_to c.args.left) _ _ _ _ _ _ c.loop-stmt-test.true c.stmt-item.is c.loop-stmt.invariant c.in_ok-all.ensures

pub in_all-returns : goal.in_all-returns
in_all-returns t c = c.loop-stmt.invariant ∙ ap (λ l. c.args.names.items ++ gather (variables_to c.args.left) l) (take_whole _ _ c.loop-stmt-test.false)

pub in_cases-loop-case-preserved : goal.in_cases-loop-case-preserved
in_cases-loop-case-preserved t c =
    gather_next (λ (d : Case). gather (variables_to c.args.left) (out-Case d).statements) _ _ _ _ _ _ c.loop-case-test.true c.case-item.is c.loop-case.invariant
    (more_same _ _ _ _ c.in_ok-all.ensures (ap (gather (variables_to c.args.left)) c.as_slice.ensures))

pub in_cases-returns : goal.in_cases-returns
in_cases-returns t c = c.loop-case.invariant ∙ ap (λ l. c.args.names.items ++ gather (λ (d : Case). gather (variables_to c.args.left) (out-Case d).statements) l) (take_whole _ _ c.loop-case-test.false)
