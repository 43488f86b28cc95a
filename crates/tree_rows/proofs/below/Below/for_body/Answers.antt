use Rattle.std.specs.Option.{option_copied}
use Rattle.js_tree.specs.Statements.{stepped_by}
use Rattle.js_tree.specs.Rows.{expr_to, stmt_to}
use Rattle.run_host.specs.Told.{here_in}
use Rattle.run_host.proofs.Exits.{flow_exit, first_out}
use Rattle.tree_rows.specs.Codes.{table_in}
use Rattle.tree_rows.proofs.Flows.{flow_on, flow_out, flow_paid}
use Rattle.tree_rows.proofs.below.Below.for_body.Goals as goal

pub returns-in_err-other-clause-ran : goal.returns-in_err-other-clause-ran
returns-in_err-other-clause-ran g c =
    let t = table_in c.args.codes.now in
    flow_exit _ _ c.from_residual.ensures.1 (first_out (λ nu _. stepped_by t (expr_to t c.args.self.now.left) (stmt_to t c.args.self.now.left) (here_in nu c.args.here) (option_copied c.args.step)) _ c.in_err-other.ensures.ran)

pub returns-in-Normal-clause-ran : goal.returns-in-Normal-clause-ran
returns-in-Normal-clause-ran g c =
    let t = table_in c.args.codes.now in
    flow_on (λ nu _. stepped_by t (expr_to t c.args.self.now.left) (stmt_to t c.args.self.now.left) (here_in nu c.args.here) (option_copied c.args.step)) _ c.in-Normal.is c.in_ok-other.ensures.ran c.stepped.ensures.ran

pub returns-in-Normal-clause-paid : goal.returns-in-Normal-clause-paid
returns-in-Normal-clause-paid g c = flow_paid (g.H.Host.moment c.args.host.now) c.stepped.result c.stepped.ensures.ran c.in_ok-other.ensures.paid

pub returns-in_default-clause-ran : goal.returns-in_default-clause-ran
returns-in_default-clause-ran g c =
    let t = table_in c.args.codes.now in
    flow_out (λ nu _. stepped_by t (expr_to t c.args.self.now.left) (stmt_to t c.args.self.now.left) (here_in nu c.args.here) (option_copied c.args.step)) _ c.in_default.not-Normal c.in_ok-other.ensures.ran
