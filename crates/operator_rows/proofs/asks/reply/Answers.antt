use Rattle.turk_base.specs.Errors.{text_from}
use Rattle.js_tree.specs.ScriptCalls.{reply_row, reply_to}
use Rattle.run_host.proofs.Sequence.{then_on}
use Rattle.run_host.proofs.Exits.{value_exit, first_out}
use Rattle.run_host.proofs.Fits.{runs_on, runs_left}
use Rattle.operator_rows.proofs.asks.reply.Goals as goal

pub returns-in_err-value-clause-ran : goal.returns-in_err-value-clause-ran
unfolding reply_row
returns-in_err-value-clause-ran g c = value_exit _ _ c.from_residual.ensures.1 (first_out (λ nu v. text_from v (λ t. reply_to t)) _ c.in_err-value.ensures.ran)

pub returns-in_err-token-clause-ran : goal.returns-in_err-token-clause-ran
unfolding reply_row
returns-in_err-token-clause-ran g c = value_exit _ _ c.from_residual-in_err-token.ensures.1 (then_on (λ nu v. text_from v (λ t. reply_to t)) c.in_ok-value.ensures.ran (runs_left (λ nu t. reply_to t) c.in_err-token.ensures.did))

pub returns-clause-ran : goal.returns-clause-ran
unfolding reply_row
returns-clause-ran g c = then_on (λ nu v. text_from v (λ t. reply_to t)) c.in_ok-value.ensures.ran (runs_on (λ nu t. reply_to t) c.in_ok-token.ensures.did c.reply_to.ensures.ran)
