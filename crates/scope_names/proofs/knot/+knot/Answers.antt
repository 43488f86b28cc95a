use Rattle.std.proofs.Common.{subst, IfOk}
use Rattle.scope_names.specs.Walks.{Resolves}
use Rattle.scope_names.specs.Kinds.{expr_kind, stmt_kind, declaration_kind}
use Rattle.scope_names.proofs.TurnedParts.{level_back}
use Rattle.scope_names.proofs.knot.+knot.Goals as goal

pub expr-returns : goal.expr-returns
expr-returns t c = subst (λ n. IfOk c.expr_node.result (λ r. Resolves (expr_kind n) c.args.walk c.args.given.now r.0 r.1)) (level_back c.args.left c.if-left-eq0.false) c.expr_node.ensures

pub stmt-returns : goal.stmt-returns
stmt-returns t c = subst (λ n. IfOk c.stmt_node.result (λ r. Resolves (stmt_kind n) c.args.walk c.args.given.now r.0 r.1)) (level_back c.args.left c.if-left-eq0.false) c.stmt_node.ensures

pub declaration-returns : goal.declaration-returns
declaration-returns t c = subst (λ n. IfOk c.declaration_node.result (λ r. Resolves (declaration_kind n) c.args.walk c.args.given.now r.0 r.1)) (level_back c.args.left c.if-left-eq0.false) c.declaration_node.ensures
