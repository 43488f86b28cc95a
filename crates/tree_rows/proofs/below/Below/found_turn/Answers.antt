use Rattle.js_tree.specs.Rows.{expr_to, stmt_to}
use Rattle.js_tree.specs.Statements.{body_of}
use Rattle.run_host.proofs.Exits.{flow_exit}
use Rattle.run_host.proofs.Fits.{runs_left, runs_on}
use Rattle.run_host.specs.Told.{here_in}
use Rattle.tree_rows.specs.Codes.{table_in}
use Rattle.tree_rows.proofs.below.Below.found_turn.Goals as goal

pub returns-in_err-assigned-clause-ran : goal.returns-in_err-assigned-clause-ran
returns-in_err-assigned-clause-ran g c = let t = table_in c.args.codes.now in
    flow_exit _ _ c.from_residual.ensures.1 (runs_left (λ nu _. body_of t (expr_to t c.args.self.now.left) (stmt_to t c.args.self.now.left) (here_in nu c.args.here) c.args.s.now) c.in_err-assigned.ensures.did)

pub returns-clause-ran : goal.returns-clause-ran
returns-clause-ran g c = let t = table_in c.args.codes.now in
    runs_on (λ nu _. body_of t (expr_to t c.args.self.now.left) (stmt_to t c.args.self.now.left) (here_in nu c.args.here) c.args.s.now) c.in_ok-assigned.ensures.did c.body.ensures.ran
