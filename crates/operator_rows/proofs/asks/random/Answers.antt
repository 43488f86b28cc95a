use Rattle.turk_base.specs.Prog.{given}
use Rattle.turk_base.specs.Conversions.{number_in}
use Rattle.js_tree.specs.ScriptCalls.{random_row, draw_below}
use Rattle.value_cells.specs.Seen.{val_in}
use Rattle.run_host.proofs.Sequence.{then_on}
use Rattle.run_host.proofs.Exits.{value_exit, first_out}
use Rattle.run_host.proofs.Fits.{runs_on, runs_left}
use Rattle.host_steps.proofs.Made.{given_goes, given_out}
use Rattle.operator_rows.proofs.asks.random.Goals as goal

pub returns-in_err-value-clause-ran : goal.returns-in_err-value-clause-ran
unfolding random_row
returns-in_err-value-clause-ran g c = value_exit _ _ c.from_residual.ensures.1 (first_out (λ nu v. given (number_in v) (λ n. draw_below n)) _ c.in_err-value.ensures.ran)

pub returns-in_err-bound-clause-ran : goal.returns-in_err-bound-clause-ran
unfolding random_row
returns-in_err-bound-clause-ran g c = value_exit _ _ c.from_residual-in_err-bound.ensures.1 (then_on (λ nu v. given (number_in v) (λ n. draw_below n)) c.in_ok-value.ensures.ran (runs_left (λ nu n. draw_below n) (given_out (λ nu. number_in (val_in nu c.in_ok-value.value)) _ c.in_err-bound.ensures)))

pub returns-clause-ran : goal.returns-clause-ran
unfolding random_row
returns-clause-ran g c = then_on (λ nu v. given (number_in v) (λ n. draw_below n)) c.in_ok-value.ensures.ran (runs_on (λ nu n. draw_below n) (given_goes (λ nu. number_in (val_in nu c.in_ok-value.value)) (λ nu n. n) c.in_ok-bound.bound c.in_ok-bound.ensures) c.draw_below.ensures.ran)
