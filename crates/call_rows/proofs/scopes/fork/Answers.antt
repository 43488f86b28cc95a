use Rattle.js_tree.specs.Calls.{call_value}
use Rattle.js_tree.specs.Pieces.{as_function}
use Rattle.js_tree.specs.Rows.{expr_to, stmt_to}
use Rattle.js_tree.specs.ScriptCalls.{fork_row}
use Rattle.run_host.proofs.Exits.{first_out, value_exit}
use Rattle.run_host.proofs.Fits.{runs_left, runs_on}
use Rattle.run_host.proofs.Sequence.{then_on}
use Rattle.run_host.specs.Told.{here_in, told_exit}
use Rattle.std.proofs.Common.{[]}
use Rattle.std.specs.Prelude.{codes}
use Rattle.tree_rows.specs.Codes.{table_in}
use Rattle.turk_base.specs.Errors.{type_error}
use Rattle.turk_base.specs.Prog.{Fork, Then}
use Rattle.turk_base.specs.Values.{Object, Undefined}
use Rattle.call_rows.proofs.scopes.fork.Goals as goal

pub returns-in_err-may_fork-clause-ran : goal.returns-in_err-may_fork-clause-ran
unfolding fork_row
returns-in_err-may_fork-clause-ran g c = let t = table_in c.args.codes.now in let e = expr_to t c.args.below.now.left in let s = stmt_to t c.args.below.now.left in value_exit _ _ c.from_residual.ensures.1 (runs_left (λ nu _. Then (e (here_in nu c.args.here) c.args.e.now) (λ v. as_function v (type_error (codes "fork needs a function")) (λ f. Fork (call_value t s (Object f) Undefined [])))) c.in_err-may_fork.ensures.did)

pub returns-in_err-value-clause-ran : goal.returns-in_err-value-clause-ran
unfolding fork_row
returns-in_err-value-clause-ran g c = let t = table_in c.args.codes.now in let e = expr_to t c.args.below.now.left in let s = stmt_to t c.args.below.now.left in value_exit _ _ c.from_residual-in_err-value.ensures.1 (runs_on (λ nu _. Then (e (here_in nu c.args.here) c.args.e.now) (λ v. as_function v (type_error (codes "fork needs a function")) (λ f. Fork (call_value t s (Object f) Undefined [])))) c.in_ok-may_fork.ensures.did (first_out (λ nu v. as_function v (type_error (codes "fork needs a function")) (λ f. Fork (call_value t s (Object f) Undefined []))) _ c.in_err-value.ensures.ran))

pub returns-in-Some-clause-ran : goal.returns-in-Some-clause-ran
unfolding fork_row
returns-in-Some-clause-ran g c = let t = table_in c.args.codes.now in let e = expr_to t c.args.below.now.left in let s = stmt_to t c.args.below.now.left in runs_on (λ nu _. Then (e (here_in nu c.args.here) c.args.e.now) (λ v. as_function v (type_error (codes "fork needs a function")) (λ f. Fork (call_value t s (Object f) Undefined [])))) c.in_ok-may_fork.ensures.did (then_on (λ nu v. as_function v (type_error (codes "fork needs a function")) (λ f. Fork (call_value t s (Object f) Undefined []))) c.in_ok-value.ensures.ran (runs_on (λ nu f. Fork (call_value t s (Object f) Undefined [])) (c.in-Some.ensures.some (type_error (codes "fork needs a function"))) c.call_branch.ensures.ran))

pub returns-clause-ran : goal.returns-clause-ran
unfolding fork_row
returns-clause-ran g c = let t = table_in c.args.codes.now in let e = expr_to t c.args.below.now.left in let s = stmt_to t c.args.below.now.left in runs_on (λ nu _. Then (e (here_in nu c.args.here) c.args.e.now) (λ v. as_function v (type_error (codes "fork needs a function")) (λ f. Fork (call_value t s (Object f) Undefined [])))) c.in_ok-may_fork.ensures.did (then_on (λ nu v. as_function v (type_error (codes "fork needs a function")) (λ f. Fork (call_value t s (Object f) Undefined []))) c.in_ok-value.ensures.ran ((c.function_in.ensures.none c.in-None.is (type_error (codes "fork needs a function")) (λ nu f. Fork (call_value t s (Object f) Undefined []))).goes (λ nu. told_exit nu c.type_error_of.result) (g.H.Host.moment c.type_error_of.new.host) c.type_error_of.ensures.did))
