use Rattle.js_tree.specs.Rows.{expr_to, stmt_to}
use Rattle.js_tree.specs.Statements.{clause_for, left_loop, switch_row}
use Rattle.run_host.proofs.Exits.{always_done, always_exit, first_out, flow_exit}
use Rattle.run_host.proofs.Sequence.{then_on}
use Rattle.run_host.specs.Told.{flow_in, here_in}
use Rattle.std.proofs.Common.{ap, refl}
use Rattle.tree_rows.proofs.Turns.{passed}
use Rattle.tree_rows.specs.Codes.{table_in}
use Rattle.turk_base.specs.Prog.{Always}
use Rattle.tree_rows.proofs.below.Below.switching.Goals as goal

pub returns-in_err-value-clause-ran : goal.returns-in_err-value-clause-ran
unfolding switch_row
returns-in_err-value-clause-ran g c =
    let t = table_in c.args.codes.now in
    flow_exit _ _ c.from_residual.ensures.1 (first_out (λ nu v. Always (clause_for t (expr_to t c.args.self.now.left) (stmt_to t c.args.self.now.left) (here_in nu c.args.here) v c.args.cases.now c.args.cases.now) (left_loop t (expr_to t c.args.self.now.left) (stmt_to t c.args.self.now.left))) _ c.in_err-value.ensures.ran)

pub returns-in_err-other-clause-ran : goal.returns-in_err-other-clause-ran
unfolding switch_row
returns-in_err-other-clause-ran g c =
    let t = table_in c.args.codes.now in
    flow_exit _ _ c.from_residual-in_err-other.ensures.1 (then_on (λ nu v. Always (clause_for t (expr_to t c.args.self.now.left) (stmt_to t c.args.self.now.left) (here_in nu c.args.here) v c.args.cases.now c.args.cases.now) (left_loop t (expr_to t c.args.self.now.left) (stmt_to t c.args.self.now.left))) c.in_ok-value.ensures.ran
    (always_exit (λ nu. left_loop t (expr_to t c.args.self.now.left) (stmt_to t c.args.self.now.left)) _ (λ nu v. refl) c.in_err-other.ensures.ran))

pub returns-in-Break-clause-ran : goal.returns-in-Break-clause-ran
unfolding switch_row
returns-in-Break-clause-ran g c =
    let t = table_in c.args.codes.now in
    then_on (λ nu v. Always (clause_for t (expr_to t c.args.self.now.left) (stmt_to t c.args.self.now.left) (here_in nu c.args.here) v c.args.cases.now c.args.cases.now) (left_loop t (expr_to t c.args.self.now.left) (stmt_to t c.args.self.now.left))) c.in_ok-value.ensures.ran
    (always_done (λ nu. left_loop t (expr_to t c.args.self.now.left) (stmt_to t c.args.self.now.left)) (λ nu. ap (λ f. left_loop t (expr_to t c.args.self.now.left) (stmt_to t c.args.self.now.left) (flow_in nu f)) c.in-Break.is) c.in_ok-other.ensures.ran)

pub returns-clause-ran : goal.returns-clause-ran
unfolding switch_row
returns-clause-ran g c =
    let t = table_in c.args.codes.now in
    then_on (λ nu v. Always (clause_for t (expr_to t c.args.self.now.left) (stmt_to t c.args.self.now.left) (here_in nu c.args.here) v c.args.cases.now c.args.cases.now) (left_loop t (expr_to t c.args.self.now.left) (stmt_to t c.args.self.now.left))) c.in_ok-value.ensures.ran
    (always_done (λ nu. left_loop t (expr_to t c.args.self.now.left) (stmt_to t c.args.self.now.left)) (λ nu. passed t (expr_to t c.args.self.now.left) (stmt_to t c.args.self.now.left) nu c.in_ok-other.other c.in_default.not-Break) c.in_ok-other.ensures.ran)
