use Rattle.std.proofs.Common.{◌≡◌, ◌∙◌, ap, sym, ◌++◌, ◌-◌}
use Rattle.js_tree.specs.declared.StmtNode.{out-StmtNode, out-roll-StmtNode}
use Rattle.js_tree.specs.declared.StmtNode.TheVariants as s
use Rattle.js_tree.specs.declared.ExprNode.TheOpen.{StmtNode-F}
use Rattle.js_tree.specs.declared.ForStart.{out-ForStart}
use Rattle.js_tree.specs.declared.Case.{Case, out-Case}
use Rattle.js_tree.specs.declared.Catch.{Catch, out-Catch}
use Rattle.js_tree.specs.Calls.{gather, gather_option, variables_to, variables_of, start_variables}
use Rattle.scope_names.specs.Gathered.{gathered}
use Rattle.scope_names.proofs.HoistLemmas.{gather_next, take_whole, then_names, then_more, same_names, variables_step}
use Rattle.scope_names.proofs.hoist.+hoist.Goals as goal

pub in_node-returns-in_ok-names-in-If : goal.in_node-returns-in_ok-names-in-If
in_node-returns-in_ok-names-in-If t c =
    then_more c.in_option.result _ _ (variables_to c.args.left c.get.result.now) (gather_option (variables_to c.args.left) c.in-If.otherwise) _ c.in_ok-names-in-If.ensures
    (ap (λ n. variables_of (variables_to c.args.left) (out-StmtNode n)) (c.in-If.is ∙ sym (s.rolls-If c.in-If.field-0 c.in-If.then c.in-If.otherwise))
    ∙ ap (variables_of (variables_to c.args.left)) (out-roll-StmtNode (StmtNode-F.If c.in-If.field-0 c.in-If.then c.in-If.otherwise))
    ∙ ap (λ s. variables_to c.args.left s ++ gather_option (variables_to c.args.left) c.in-If.otherwise) (sym c.get.ensures)) c.in_option.ensures

pub in_node-returns-in_ok-names-in-For : goal.in_node-returns-in_ok-names-in-For
in_node-returns-in_ok-names-in-For t c =
    then_more c.variables-in-For.result _ _ (start_variables (variables_to c.args.left) (out-ForStart c.in-For.start)) (variables_to c.args.left c.get-in-For.result.now) _ c.in_ok-names-in-For.ensures
    (ap (λ n. variables_of (variables_to c.args.left) (out-StmtNode n)) (c.in-For.is ∙ sym (s.rolls-For c.in-For.start c.in-For.field-1 c.in-For.field-2 c.in-For.body))
    ∙ ap (variables_of (variables_to c.args.left)) (out-roll-StmtNode (StmtNode-F.For c.in-For.start c.in-For.field-1 c.in-For.field-2 c.in-For.body))
    ∙ ap (λ s. start_variables (variables_to c.args.left) (out-ForStart c.in-For.start) ++ variables_to c.args.left s) (sym c.get-in-For.ensures)) c.variables-in-For.ensures

pub in_node-returns-in_ok-names-in-Try-2 : goal.in_node-returns-in_ok-names-in-Try-2
in_node-returns-in_ok-names-in-Try-2 t c =
    then_more c.in_option-in-Try.result _ _
    (variables_to c.args.left c.get-in-Try.result.now ++ gather_option (λ (d : Catch). variables_to c.args.left (out-Catch d).body) c.in-Try.caught)
    (gather_option (variables_to c.args.left) c.in-Try.last) _
    (then_names _ _ _ (variables_to c.args.left c.get-in-Try.result.now) (gather_option (λ (d : Catch). variables_to c.args.left (out-Catch d).body) c.in-Try.caught) c.in_ok-names-in-Try.ensures c.in_ok-names-in-Try-2.ensures)
    (ap (λ n. variables_of (variables_to c.args.left) (out-StmtNode n)) (c.in-Try.is ∙ sym (s.rolls-Try c.in-Try.body c.in-Try.caught c.in-Try.last))
    ∙ ap (variables_of (variables_to c.args.left)) (out-roll-StmtNode (StmtNode-F.Try c.in-Try.body c.in-Try.caught c.in-Try.last))
    ∙ ap (λ s. (variables_to c.args.left s ++ gather_option (λ (d : Catch). variables_to c.args.left (out-Catch d).body) c.in-Try.caught) ++ gather_option (variables_to c.args.left) c.in-Try.last) (sym c.get-in-Try.ensures))
    c.in_option-in-Try.ensures

pub variables-returns : goal.variables-returns
variables-returns t c =
    same_names c.in_node.result _ _ _ (variables_step c.args.left c.args.stmt.now c.if-left-eq0.false ∙ ap (λ n. variables_of (variables_to (c.args.left - 1)) (out-StmtNode n)) (sym c.node.ensures)) c.in_node.ensures

pub in_all-loop-stmt-preserved : goal.in_all-loop-stmt-preserved
in_all-loop-stmt-preserved t c =
    c.in_ok-all.ensures ∙ ap (λ a. gathered a (variables_to c.args.left c.stmt-item.result)) c.loop-stmt.invariant ∙ gather_next (variables_to c.args.left) _ _ _ _ c.loop-stmt-test.true c.stmt-item.is

pub in_all-returns : goal.in_all-returns
in_all-returns t c = c.loop-stmt.invariant ∙ ap (λ l. gathered c.args.names (gather (variables_to c.args.left) l)) (take_whole _ _ c.loop-stmt-test.false)

pub in_cases-loop-case-preserved : goal.in_cases-loop-case-preserved
in_cases-loop-case-preserved t c =
    c.in_ok-all.ensures ∙ (λ i. gathered (c.loop-case.invariant i) (gather (variables_to c.args.left) (c.as_slice.ensures i)))
    ∙ gather_next (λ (d : Case). gather (variables_to c.args.left) (out-Case d).statements) _ _ _ _ c.loop-case-test.true c.case-item.is

pub in_cases-returns : goal.in_cases-returns
in_cases-returns t c = c.loop-case.invariant ∙ ap (λ l. gathered c.args.names (gather (λ (d : Case). gather (variables_to c.args.left) (out-Case d).statements) l)) (take_whole _ _ c.loop-case-test.false)
