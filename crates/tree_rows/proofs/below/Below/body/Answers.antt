use Rattle.std.proofs.Common.{refl, ap}
use Rattle.turk_base.specs.Values.{Outcome}
use Rattle.js_tree.specs.Statements.{continued}
use Rattle.tree_rows.specs.Codes.{table_in}
use Rattle.js_tree.specs.Rows.{expr_to, stmt_to}
use Rattle.run_host.specs.Told.{flow_in}
use Rattle.run_host.proofs.Exits.{flow_exit, always_exit, always_done}
use Rattle.tree_rows.proofs.Lists.{passes_on}
use Rattle.tree_rows.proofs.below.Below.body.Goals as goal

pub returns-in_err-other-clause-ran : goal.returns-in_err-other-clause-ran
returns-in_err-other-clause-ran g c =
    let t = table_in c.args.codes.now in
    flow_exit _ _ c.from_residual.ensures.1 (always_exit (λ nu. continued t (expr_to t c.args.self.now.left) (stmt_to t c.args.self.now.left)) _ (λ nu v. refl) c.in_err-other.ensures.ran)

pub returns-in-Continue-clause-ran : goal.returns-in-Continue-clause-ran
returns-in-Continue-clause-ran g c =
    let t = table_in c.args.codes.now in
    let next = λ (o : Outcome). continued t (expr_to t c.args.self.now.left) (stmt_to t c.args.self.now.left) o in
    always_done (λ nu. next) (λ nu. ap (λ f. next (flow_in nu f)) c.in-Continue.is) c.in_ok-other.ensures.ran

pub returns-in_default-clause-ran : goal.returns-in_default-clause-ran
returns-in_default-clause-ran g c =
    let t = table_in c.args.codes.now in
    always_done (λ nu. continued t (expr_to t c.args.self.now.left) (stmt_to t c.args.self.now.left))
    (λ nu. passes_on t (expr_to t c.args.self.now.left) (stmt_to t c.args.self.now.left) nu c.in_ok-other.other c.in_default.not-Continue) c.in_ok-other.ensures.ran
