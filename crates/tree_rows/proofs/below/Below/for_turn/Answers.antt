use Rattle.std.proofs.Common.{ap, ◌∙◌}
use Rattle.std.specs.Option.{option_copied}
use Rattle.turk_base.specs.Conversions.{truth}
use Rattle.turk_base.specs.Errors.{choose}
use Rattle.turk_base.specs.Values.{Break}
use Rattle.turk_base.specs.Prog.{Done, Then}
use Rattle.js_tree.specs.Statements.{body_of, stepped_by}
use Rattle.js_tree.specs.Rows.{expr_to, stmt_to}
use Rattle.value_cells.specs.Seen.{Naming}
use Rattle.run_host.specs.Told.{Says, here_in, told_flow}
use Rattle.run_host.proofs.Sequence.{then_on, ends_with}
use Rattle.tree_rows.specs.Codes.{table_in}
use Rattle.run_host.proofs.Exits.{flow_exit, first_out}
use Rattle.tree_rows.proofs.Lists.{onward_eq}
use Rattle.tree_rows.proofs.below.Below.for_turn.Goals as goal

pub returns-in_default-clause-ran : goal.returns-in_default-clause-ran
returns-in_default-clause-ran g c = rw c.in_default.is c.for_body.ensures.ran

pub returns-in_err-value-clause-ran : goal.returns-in_err-value-clause-ran
returns-in_err-value-clause-ran g c =
    let t = table_in c.args.codes.now in
    let a = λ (nu : Naming). Then (body_of t (expr_to t c.args.self.now.left) (stmt_to t c.args.self.now.left) (here_in nu c.args.here) c.args.s.now) (λ _. stepped_by t (expr_to t c.args.self.now.left) (stmt_to t c.args.self.now.left) (here_in nu c.args.here) (option_copied c.args.step)) in
    rw c.in-Some.is (flow_exit _ _ c.from_residual.ensures.1 (first_out (λ nu v. choose (truth v) (a nu) (Done Break)) _ c.in_err-value.ensures.ran))

pub returns-then-truth-clause-ran : goal.returns-then-truth-clause-ran
returns-then-truth-clause-ran g c =
    let t = table_in c.args.codes.now in
    let a = λ (nu : Naming). Then (body_of t (expr_to t c.args.self.now.left) (stmt_to t c.args.self.now.left) (here_in nu c.args.here) c.args.s.now) (λ _. stepped_by t (expr_to t c.args.self.now.left) (stmt_to t c.args.self.now.left) (here_in nu c.args.here) (option_copied c.args.step)) in
    rw c.in-Some.is (then_on (λ nu v. choose (truth v) (a nu) (Done Break)) c.in_ok-value.ensures.ran
    ((onward_eq (λ nu. ap (λ x. choose x (a nu) (Done Break)) (c.truth.ensures nu ∙ c.if-truth.true))).goes (λ nu. told_flow nu c.for_body-then-truth.result) (g.H.Host.moment c.for_body-then-truth.new.host) c.for_body-then-truth.ensures.ran))

pub returns-clause-ran : goal.returns-clause-ran
returns-clause-ran g c =
    let t = table_in c.args.codes.now in
    let a = λ (nu : Naming). Then (body_of t (expr_to t c.args.self.now.left) (stmt_to t c.args.self.now.left) (here_in nu c.args.here) c.args.s.now) (λ _. stepped_by t (expr_to t c.args.self.now.left) (stmt_to t c.args.self.now.left) (here_in nu c.args.here) (option_copied c.args.step)) in
    rw c.in-Some.is (then_on (λ nu v. choose (truth v) (a nu) (Done Break)) c.in_ok-value.ensures.ran
    ((onward_eq (λ nu. ap (λ x. choose x (a nu) (Done Break)) (c.truth.ensures nu ∙ c.if-truth.false))).goes (λ nu. Says Break) (g.H.Host.moment c.expr.new.host) ends_with))
