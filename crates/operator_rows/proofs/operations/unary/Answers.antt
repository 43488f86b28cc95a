use Rattle.turk_base.specs.Prog.{given, value}
use Rattle.js_tree.specs.Expressions.{unary_row}
use Rattle.js_tree.specs.Operate.{unary_result}
use Rattle.value_cells.specs.Seen.{val_in}
use Rattle.run_host.proofs.Sequence.{then_on, ends_with}
use Rattle.run_host.proofs.Exits.{value_exit, first_out}
use Rattle.run_host.proofs.Fits.{runs_on, runs_left}
use Rattle.host_steps.proofs.Made.{given_goes, given_out}
use Rattle.operator_rows.proofs.operations.unary.Goals as goal

pub returns-in_err-value-clause-ran : goal.returns-in_err-value-clause-ran
unfolding unary_row
returns-in_err-value-clause-ran g c = value_exit _ _ c.from_residual.ensures.1 (first_out (λ nu v. given (unary_result c.args.operator v) (λ r. value r)) _ c.in_err-value.ensures.ran)

pub returns-in_err-answer-clause-ran : goal.returns-in_err-answer-clause-ran
unfolding unary_row
returns-in_err-answer-clause-ran g c = value_exit _ _ c.from_residual-in_err-answer.ensures.1 (then_on (λ nu v. given (unary_result c.args.operator v) (λ r. value r)) c.in_ok-value.ensures.ran (runs_left (λ nu r. value r) (given_out (λ nu. unary_result c.args.operator (val_in nu c.in_ok-value.value)) _ c.in_err-answer.ensures.value)))

pub returns-clause-ran : goal.returns-clause-ran
unfolding unary_row
returns-clause-ran g c = then_on (λ nu v. given (unary_result c.args.operator v) (λ r. value r)) c.in_ok-value.ensures.ran (runs_on (λ nu r. value r) (given_goes (λ nu. unary_result c.args.operator (val_in nu c.in_ok-value.value)) val_in c.in_ok-answer.answer c.in_ok-answer.ensures.value) ends_with)
