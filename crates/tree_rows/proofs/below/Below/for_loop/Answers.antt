use Rattle.host_steps.proofs.Made.{runs_as}
use Rattle.js_tree.specs.Rows.{expr_to, stmt_to}
use Rattle.js_tree.specs.Statements.{body_of, for_row, looped, started, stepped_by, tested}
use Rattle.js_tree.specs.declared.ExprNode.TheOpen.{ForStart-F}
use Rattle.js_tree.specs.declared.ForStart.{out-ForStart, out-roll-ForStart}
use Rattle.run_host.proofs.Exits.{first_out, flow_exit}
use Rattle.run_host.proofs.Sequence.{then_on}
use Rattle.run_host.specs.Told.{here_in}
use Rattle.std.proofs.Common.{ap, sym, ◌∙◌}
use Rattle.std.specs.Option.{option_copied}
use Rattle.tree_rows.proofs.Flows.{flow_on, flow_out}
use Rattle.tree_rows.specs.Codes.{table_in}
use Rattle.turk_base.specs.Prog.{Then}
use Rattle.turk_base.specs.Start.{start}
use Rattle.js_tree.specs.declared.ForStart.TheVariants as start
use Rattle.tree_rows.proofs.below.Below.for_loop.Goals as goal

pub returns-in-NoStart-clause-ran : goal.returns-in-NoStart-clause-ran
unfolding for_row
returns-in-NoStart-clause-ran g c = let t = table_in c.args.codes.now in
    runs_as (λ nu. ap (λ b. started t (expr_to t c.args.self.now.left) (stmt_to t c.args.self.now.left) (here_in nu c.args.here) b (λ _. looped t (expr_to t c.args.self.now.left) (stmt_to t c.args.self.now.left) (tested t (expr_to t c.args.self.now.left) (stmt_to t c.args.self.now.left) (here_in nu c.args.here) (option_copied c.args.test) (Then (body_of t (expr_to t c.args.self.now.left) (stmt_to t c.args.self.now.left) (here_in nu c.args.here) c.args.s.now) (λ _. stepped_by t (expr_to t c.args.self.now.left) (stmt_to t c.args.self.now.left) (here_in nu c.args.here) (option_copied c.args.step)))))) (ap out-ForStart (c.in-NoStart.is ∙ sym start.rolls-NoStart) ∙ out-roll-ForStart ForStart-F.NoStart)) c.for_turns.ensures.ran

pub returns-in_err-expr-in-ValueStart-clause-ran : goal.returns-in_err-expr-in-ValueStart-clause-ran
unfolding for_row
returns-in_err-expr-in-ValueStart-clause-ran g c = let t = table_in c.args.codes.now in
    flow_exit _ _ c.from_residual.ensures.1 (runs_as (λ nu. ap (λ b. started t (expr_to t c.args.self.now.left) (stmt_to t c.args.self.now.left) (here_in nu c.args.here) b (λ _. looped t (expr_to t c.args.self.now.left) (stmt_to t c.args.self.now.left) (tested t (expr_to t c.args.self.now.left) (stmt_to t c.args.self.now.left) (here_in nu c.args.here) (option_copied c.args.test) (Then (body_of t (expr_to t c.args.self.now.left) (stmt_to t c.args.self.now.left) (here_in nu c.args.here) c.args.s.now) (λ _. stepped_by t (expr_to t c.args.self.now.left) (stmt_to t c.args.self.now.left) (here_in nu c.args.here) (option_copied c.args.step)))))) (ap out-ForStart (c.in-ValueStart.is ∙ sym (start.rolls-ValueStart c.in-ValueStart.e)) ∙ out-roll-ForStart (ForStart-F.ValueStart c.in-ValueStart.e))) (first_out (λ nu _. looped t (expr_to t c.args.self.now.left) (stmt_to t c.args.self.now.left) (tested t (expr_to t c.args.self.now.left) (stmt_to t c.args.self.now.left) (here_in nu c.args.here) (option_copied c.args.test) (Then (body_of t (expr_to t c.args.self.now.left) (stmt_to t c.args.self.now.left) (here_in nu c.args.here) c.args.s.now) (λ _. stepped_by t (expr_to t c.args.self.now.left) (stmt_to t c.args.self.now.left) (here_in nu c.args.here) (option_copied c.args.step))))) _ c.in_err-expr-in-ValueStart.ensures.ran))

pub returns-in_ok-expr-in-ValueStart-clause-ran : goal.returns-in_ok-expr-in-ValueStart-clause-ran
unfolding for_row
returns-in_ok-expr-in-ValueStart-clause-ran g c = let t = table_in c.args.codes.now in
    runs_as (λ nu. ap (λ b. started t (expr_to t c.args.self.now.left) (stmt_to t c.args.self.now.left) (here_in nu c.args.here) b (λ _. looped t (expr_to t c.args.self.now.left) (stmt_to t c.args.self.now.left) (tested t (expr_to t c.args.self.now.left) (stmt_to t c.args.self.now.left) (here_in nu c.args.here) (option_copied c.args.test) (Then (body_of t (expr_to t c.args.self.now.left) (stmt_to t c.args.self.now.left) (here_in nu c.args.here) c.args.s.now) (λ _. stepped_by t (expr_to t c.args.self.now.left) (stmt_to t c.args.self.now.left) (here_in nu c.args.here) (option_copied c.args.step)))))) (ap out-ForStart (c.in-ValueStart.is ∙ sym (start.rolls-ValueStart c.in-ValueStart.e)) ∙ out-roll-ForStart (ForStart-F.ValueStart c.in-ValueStart.e))) (then_on (λ nu _. looped t (expr_to t c.args.self.now.left) (stmt_to t c.args.self.now.left) (tested t (expr_to t c.args.self.now.left) (stmt_to t c.args.self.now.left) (here_in nu c.args.here) (option_copied c.args.test) (Then (body_of t (expr_to t c.args.self.now.left) (stmt_to t c.args.self.now.left) (here_in nu c.args.here) c.args.s.now) (λ _. stepped_by t (expr_to t c.args.self.now.left) (stmt_to t c.args.self.now.left) (here_in nu c.args.here) (option_copied c.args.step))))) c.in_ok-expr-in-ValueStart.ensures.ran c.for_turns-in-ValueStart.ensures.ran)

pub returns-in_err-other-in-VarStart-clause-ran : goal.returns-in_err-other-in-VarStart-clause-ran
unfolding for_row
returns-in_err-other-in-VarStart-clause-ran g c = let t = table_in c.args.codes.now in
    flow_exit _ _ c.from_residual-in_err-other-in-VarStart.ensures.1 (runs_as (λ nu. ap (λ b. started t (expr_to t c.args.self.now.left) (stmt_to t c.args.self.now.left) (here_in nu c.args.here) b (λ _. looped t (expr_to t c.args.self.now.left) (stmt_to t c.args.self.now.left) (tested t (expr_to t c.args.self.now.left) (stmt_to t c.args.self.now.left) (here_in nu c.args.here) (option_copied c.args.test) (Then (body_of t (expr_to t c.args.self.now.left) (stmt_to t c.args.self.now.left) (here_in nu c.args.here) c.args.s.now) (λ _. stepped_by t (expr_to t c.args.self.now.left) (stmt_to t c.args.self.now.left) (here_in nu c.args.here) (option_copied c.args.step)))))) (ap out-ForStart (c.in-VarStart.is ∙ sym (start.rolls-VarStart c.in-VarStart.begin)) ∙ out-roll-ForStart (ForStart-F.VarStart c.in-VarStart.begin)) ∙ ap (λ s. Then ((stmt_to t c.args.self.now.left) (here_in nu c.args.here) s) (λ _. looped t (expr_to t c.args.self.now.left) (stmt_to t c.args.self.now.left) (tested t (expr_to t c.args.self.now.left) (stmt_to t c.args.self.now.left) (here_in nu c.args.here) (option_copied c.args.test) (Then (body_of t (expr_to t c.args.self.now.left) (stmt_to t c.args.self.now.left) (here_in nu c.args.here) c.args.s.now) (λ _. stepped_by t (expr_to t c.args.self.now.left) (stmt_to t c.args.self.now.left) (here_in nu c.args.here) (option_copied c.args.step)))))) (sym c.get.ensures)) (first_out (λ nu _. looped t (expr_to t c.args.self.now.left) (stmt_to t c.args.self.now.left) (tested t (expr_to t c.args.self.now.left) (stmt_to t c.args.self.now.left) (here_in nu c.args.here) (option_copied c.args.test) (Then (body_of t (expr_to t c.args.self.now.left) (stmt_to t c.args.self.now.left) (here_in nu c.args.here) c.args.s.now) (λ _. stepped_by t (expr_to t c.args.self.now.left) (stmt_to t c.args.self.now.left) (here_in nu c.args.here) (option_copied c.args.step))))) _ c.in_err-other-in-VarStart.ensures.ran))

pub returns-in-Normal-clause-ran : goal.returns-in-Normal-clause-ran
unfolding for_row
returns-in-Normal-clause-ran g c = let t = table_in c.args.codes.now in
    runs_as (λ nu. ap (λ b. started t (expr_to t c.args.self.now.left) (stmt_to t c.args.self.now.left) (here_in nu c.args.here) b (λ _. looped t (expr_to t c.args.self.now.left) (stmt_to t c.args.self.now.left) (tested t (expr_to t c.args.self.now.left) (stmt_to t c.args.self.now.left) (here_in nu c.args.here) (option_copied c.args.test) (Then (body_of t (expr_to t c.args.self.now.left) (stmt_to t c.args.self.now.left) (here_in nu c.args.here) c.args.s.now) (λ _. stepped_by t (expr_to t c.args.self.now.left) (stmt_to t c.args.self.now.left) (here_in nu c.args.here) (option_copied c.args.step)))))) (ap out-ForStart (c.in-VarStart.is ∙ sym (start.rolls-VarStart c.in-VarStart.begin)) ∙ out-roll-ForStart (ForStart-F.VarStart c.in-VarStart.begin)) ∙ ap (λ s. Then ((stmt_to t c.args.self.now.left) (here_in nu c.args.here) s) (λ _. looped t (expr_to t c.args.self.now.left) (stmt_to t c.args.self.now.left) (tested t (expr_to t c.args.self.now.left) (stmt_to t c.args.self.now.left) (here_in nu c.args.here) (option_copied c.args.test) (Then (body_of t (expr_to t c.args.self.now.left) (stmt_to t c.args.self.now.left) (here_in nu c.args.here) c.args.s.now) (λ _. stepped_by t (expr_to t c.args.self.now.left) (stmt_to t c.args.self.now.left) (here_in nu c.args.here) (option_copied c.args.step)))))) (sym c.get.ensures)) (flow_on (λ nu _. looped t (expr_to t c.args.self.now.left) (stmt_to t c.args.self.now.left) (tested t (expr_to t c.args.self.now.left) (stmt_to t c.args.self.now.left) (here_in nu c.args.here) (option_copied c.args.test) (Then (body_of t (expr_to t c.args.self.now.left) (stmt_to t c.args.self.now.left) (here_in nu c.args.here) c.args.s.now) (λ _. stepped_by t (expr_to t c.args.self.now.left) (stmt_to t c.args.self.now.left) (here_in nu c.args.here) (option_copied c.args.step))))) _ c.in-Normal.is c.in_ok-other-in-VarStart.ensures.ran c.for_turns-in-Normal.ensures.ran)

pub returns-in_default-clause-ran : goal.returns-in_default-clause-ran
unfolding for_row
returns-in_default-clause-ran g c = let t = table_in c.args.codes.now in
    runs_as (λ nu. ap (λ b. started t (expr_to t c.args.self.now.left) (stmt_to t c.args.self.now.left) (here_in nu c.args.here) b (λ _. looped t (expr_to t c.args.self.now.left) (stmt_to t c.args.self.now.left) (tested t (expr_to t c.args.self.now.left) (stmt_to t c.args.self.now.left) (here_in nu c.args.here) (option_copied c.args.test) (Then (body_of t (expr_to t c.args.self.now.left) (stmt_to t c.args.self.now.left) (here_in nu c.args.here) c.args.s.now) (λ _. stepped_by t (expr_to t c.args.self.now.left) (stmt_to t c.args.self.now.left) (here_in nu c.args.here) (option_copied c.args.step)))))) (ap out-ForStart (c.in-VarStart.is ∙ sym (start.rolls-VarStart c.in-VarStart.begin)) ∙ out-roll-ForStart (ForStart-F.VarStart c.in-VarStart.begin)) ∙ ap (λ s. Then ((stmt_to t c.args.self.now.left) (here_in nu c.args.here) s) (λ _. looped t (expr_to t c.args.self.now.left) (stmt_to t c.args.self.now.left) (tested t (expr_to t c.args.self.now.left) (stmt_to t c.args.self.now.left) (here_in nu c.args.here) (option_copied c.args.test) (Then (body_of t (expr_to t c.args.self.now.left) (stmt_to t c.args.self.now.left) (here_in nu c.args.here) c.args.s.now) (λ _. stepped_by t (expr_to t c.args.self.now.left) (stmt_to t c.args.self.now.left) (here_in nu c.args.here) (option_copied c.args.step)))))) (sym c.get.ensures)) (flow_out (λ nu _. looped t (expr_to t c.args.self.now.left) (stmt_to t c.args.self.now.left) (tested t (expr_to t c.args.self.now.left) (stmt_to t c.args.self.now.left) (here_in nu c.args.here) (option_copied c.args.test) (Then (body_of t (expr_to t c.args.self.now.left) (stmt_to t c.args.self.now.left) (here_in nu c.args.here) c.args.s.now) (λ _. stepped_by t (expr_to t c.args.self.now.left) (stmt_to t c.args.self.now.left) (here_in nu c.args.here) (option_copied c.args.step))))) _ c.in_default.not-Normal c.in_ok-other-in-VarStart.ensures.ran)
