use Rattle.turk_base.specs.Errors.{text_from}
use Rattle.turk_base.specs.Prog.{Post, ask, made}
use Rattle.js_tree.specs.ScriptCalls.{prompt_row, reply_to}
use Rattle.run_host.proofs.Sequence.{then_on}
use Rattle.run_host.proofs.Exits.{value_exit, first_out}
use Rattle.run_host.proofs.Fits.{runs_on, runs_left}
use Rattle.operator_rows.proofs.asks.prompt.Goals as goal

pub returns-in_err-value-clause-ran : goal.returns-in_err-value-clause-ran
unfolding prompt_row
returns-in_err-value-clause-ran g c = value_exit _ _ c.from_residual.ensures.1 (first_out (λ nu v. text_from v (λ t. ask (Post t) (λ token. made token (λ u. reply_to u)))) _ c.in_err-value.ensures.ran)

pub returns-in_err-text-clause-ran : goal.returns-in_err-text-clause-ran
unfolding prompt_row
returns-in_err-text-clause-ran g c = value_exit _ _ c.from_residual-in_err-text.ensures.1 (then_on (λ nu v. text_from v (λ t. ask (Post t) (λ token. made token (λ u. reply_to u)))) c.in_ok-value.ensures.ran (runs_left (λ nu t. ask (Post t) (λ token. made token (λ u. reply_to u))) c.in_err-text.ensures.did))

pub returns-in_err-task-clause-ran : goal.returns-in_err-task-clause-ran
unfolding prompt_row
returns-in_err-task-clause-ran g c = value_exit _ _ c.from_residual-in_err-task.ensures.1 (then_on (λ nu v. text_from v (λ t. ask (Post t) (λ token. made token (λ u. reply_to u)))) c.in_ok-value.ensures.ran (runs_on (λ nu t. ask (Post t) (λ token. made token (λ u. reply_to u))) c.in_ok-text.ensures.did (runs_left (λ nu u. reply_to u) c.in_err-task.ensures.did)))

pub returns-clause-ran : goal.returns-clause-ran
unfolding prompt_row
returns-clause-ran g c = then_on (λ nu v. text_from v (λ t. ask (Post t) (λ token. made token (λ u. reply_to u)))) c.in_ok-value.ensures.ran (runs_on (λ nu t. ask (Post t) (λ token. made token (λ u. reply_to u))) c.in_ok-text.ensures.did (runs_on (λ nu u. reply_to u) c.in_ok-task.ensures.did c.reply_to.ensures.ran))
