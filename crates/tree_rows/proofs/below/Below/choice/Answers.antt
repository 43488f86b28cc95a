use Rattle.std.proofs.Common.{ap, ◌∙◌}
use Rattle.turk_base.specs.Conversions.{truth}
use Rattle.turk_base.specs.Errors.{choose}
use Rattle.js_tree.specs.Statements.{if_row, optional}
use Rattle.js_tree.specs.Rows.{expr_to, stmt_to}
use Rattle.std.specs.Option.{option_copied}
use Rattle.value_cells.specs.Seen.{Naming}
use Rattle.run_host.specs.Told.{here_in, told_flow}
use Rattle.run_host.proofs.Sequence.{then_on}
use Rattle.tree_rows.proofs.Lists.{onward_eq}
use Rattle.tree_rows.specs.Codes.{table_in}
use Rattle.run_host.proofs.Exits.{flow_exit, first_out}
use Rattle.tree_rows.proofs.below.Below.choice.Goals as goal

pub returns-in_err-value-clause-ran : goal.returns-in_err-value-clause-ran
unfolding if_row
returns-in_err-value-clause-ran g c =
    let t = table_in c.args.codes.now in
    flow_exit _ _ c.from_residual.ensures.1 (first_out (λ nu v. choose (truth v) (stmt_to t c.args.self.now.left (here_in nu c.args.here) c.args.a.now)
    (optional t (expr_to t c.args.self.now.left) (stmt_to t c.args.self.now.left) (here_in nu c.args.here) (option_copied c.args.b))) _ c.in_err-value.ensures.ran)

pub returns-then-truth-clause-ran : goal.returns-then-truth-clause-ran
unfolding if_row
returns-then-truth-clause-ran g c =
    let t = table_in c.args.codes.now in
    let a = λ (nu : Naming). stmt_to t c.args.self.now.left (here_in nu c.args.here) c.args.a.now in
    let b = λ (nu : Naming). optional t (expr_to t c.args.self.now.left) (stmt_to t c.args.self.now.left) (here_in nu c.args.here) (option_copied c.args.b) in
    then_on (λ nu v. choose (truth v) (a nu) (b nu)) c.in_ok-value.ensures.ran
    ((onward_eq (λ nu. ap (λ x. choose x (a nu) (b nu)) (c.truth.ensures nu ∙ c.if-truth.true))).goes (λ nu. told_flow nu c.stmt.result) (g.H.Host.moment c.stmt.new.host) c.stmt.ensures.ran)

pub returns-clause-ran : goal.returns-clause-ran
unfolding if_row
returns-clause-ran g c =
    let t = table_in c.args.codes.now in
    let a = λ (nu : Naming). stmt_to t c.args.self.now.left (here_in nu c.args.here) c.args.a.now in
    let b = λ (nu : Naming). optional t (expr_to t c.args.self.now.left) (stmt_to t c.args.self.now.left) (here_in nu c.args.here) (option_copied c.args.b) in
    then_on (λ nu v. choose (truth v) (a nu) (b nu)) c.in_ok-value.ensures.ran
    ((onward_eq (λ nu. ap (λ x. choose x (a nu) (b nu)) (c.truth.ensures nu ∙ c.if-truth.false))).goes (λ nu. told_flow nu c.optional.result) (g.H.Host.moment c.optional.new.host) c.optional.ensures.ran)
