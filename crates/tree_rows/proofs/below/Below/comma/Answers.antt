use Rattle.js_tree.specs.Expressions.{comma_row}
use Rattle.js_tree.specs.Rows.{expr_to}
use Rattle.run_host.specs.Told.{here_in}
use Rattle.run_host.proofs.Sequence.{then_on}
use Rattle.tree_rows.specs.Codes.{table_in}
use Rattle.run_host.proofs.Exits.{value_exit, first_out}
use Rattle.tree_rows.proofs.below.Below.comma.Goals as goal

pub returns-in_err-expr-clause-ran : goal.returns-in_err-expr-clause-ran
unfolding comma_row
returns-in_err-expr-clause-ran g c =
    value_exit _ _ c.from_residual.ensures.1 (first_out (λ nu _. expr_to (table_in c.args.codes.now) c.args.self.now.left (here_in nu c.args.here) c.args.b.now) _ c.in_err-expr.ensures.ran)

pub returns-clause-ran : goal.returns-clause-ran
unfolding comma_row
returns-clause-ran g c = then_on (λ nu _. expr_to (table_in c.args.codes.now) c.args.self.now.left (here_in nu c.args.here) c.args.b.now) c.in_ok-expr.ensures.ran c.expr-2.ensures.ran
