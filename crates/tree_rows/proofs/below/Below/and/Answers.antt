use Rattle.js_tree.specs.Expressions.{and_row}
use Rattle.js_tree.specs.Rows.{expr_to}
use Rattle.run_host.proofs.Exits.{first_out, value_exit}
use Rattle.run_host.proofs.Sequence.{ends_with, then_on}
use Rattle.run_host.specs.Told.{Says, here_in, told_value}
use Rattle.std.proofs.Common.{ap, ◌∙◌}
use Rattle.tree_rows.proofs.Lists.{onward_eq}
use Rattle.tree_rows.specs.Codes.{table_in}
use Rattle.turk_base.specs.Conversions.{truth}
use Rattle.turk_base.specs.Errors.{choose}
use Rattle.turk_base.specs.Prog.{Prog, value}
use Rattle.turk_base.specs.Values.{Normal, Val}
use Rattle.value_cells.specs.Seen.{Naming, val_in}
use Rattle.tree_rows.proofs.below.Below.and.Goals as goal

pub returns-in_err-value-clause-ran : goal.returns-in_err-value-clause-ran
unfolding and_row
returns-in_err-value-clause-ran g c =
    let t = table_in c.args.codes.now in
    let a : Naming → Val → Prog = λ nu v. expr_to t c.args.self.now.left (here_in nu c.args.here) c.args.b.now in
    let b : Naming → Val → Prog = λ nu v. value v in
    value_exit _ _ c.from_residual.ensures.1 (first_out (λ nu v. choose (truth v) (a nu v) (b nu v)) _ c.in_err-value.ensures.ran)

pub returns-then-truth-clause-ran : goal.returns-then-truth-clause-ran
unfolding and_row
returns-then-truth-clause-ran g c =
    let t = table_in c.args.codes.now in
    let a : Naming → Val → Prog = λ nu v. expr_to t c.args.self.now.left (here_in nu c.args.here) c.args.b.now in
    let b : Naming → Val → Prog = λ nu v. value v in
    then_on (λ nu v. choose (truth v) (a nu v) (b nu v)) c.in_ok-value.ensures.ran
    ((onward_eq (λ nu. ap (λ x. choose x (a nu (val_in nu c.in_ok-value.value)) (b nu (val_in nu c.in_ok-value.value))) (c.truth.ensures nu ∙ c.if-truth.true))).goes (λ nu. told_value nu c.expr-then-truth.result) (g.H.Host.moment c.expr-then-truth.new.host) c.expr-then-truth.ensures.ran)

pub returns-else-truth-clause-ran : goal.returns-else-truth-clause-ran
unfolding and_row
returns-else-truth-clause-ran g c =
    let t = table_in c.args.codes.now in
    let a : Naming → Val → Prog = λ nu v. expr_to t c.args.self.now.left (here_in nu c.args.here) c.args.b.now in
    let b : Naming → Val → Prog = λ nu v. value v in
    then_on (λ nu v. choose (truth v) (a nu v) (b nu v)) c.in_ok-value.ensures.ran
    ((onward_eq (λ nu. ap (λ x. choose x (a nu (val_in nu c.in_ok-value.value)) (b nu (val_in nu c.in_ok-value.value))) (c.truth.ensures nu ∙ c.if-truth.false))).goes (λ nu. Says (Normal (val_in nu c.in_ok-value.value))) (g.H.Host.moment c.expr.new.host) ends_with)
