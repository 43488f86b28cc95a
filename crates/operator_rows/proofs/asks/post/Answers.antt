use Rattle.turk_base.specs.Values.{Text}
use Rattle.turk_base.specs.Errors.{text_from}
use Rattle.turk_base.specs.Prog.{Post, ask, made, value}
use Rattle.js_tree.specs.ScriptCalls.{post_row}
use Rattle.run_host.proofs.Sequence.{then_on, ends_with}
use Rattle.run_host.proofs.Exits.{value_exit, first_out}
use Rattle.run_host.proofs.Fits.{runs_on, runs_left}
use Rattle.operator_rows.proofs.asks.post.Goals as goal

pub returns-in_err-value-clause-ran : goal.returns-in_err-value-clause-ran
unfolding post_row
returns-in_err-value-clause-ran g c = value_exit _ _ c.from_residual.ensures.1 (first_out (λ nu v. text_from v (λ t. ask (Post t) (λ token. made token (λ u. value (Text u))))) _ c.in_err-value.ensures.ran)

pub returns-in_err-text-clause-ran : goal.returns-in_err-text-clause-ran
unfolding post_row
returns-in_err-text-clause-ran g c = value_exit _ _ c.from_residual-in_err-text.ensures.1 (then_on (λ nu v. text_from v (λ t. ask (Post t) (λ token. made token (λ u. value (Text u))))) c.in_ok-value.ensures.ran (runs_left (λ nu t. ask (Post t) (λ token. made token (λ u. value (Text u)))) c.in_err-text.ensures.did))

pub returns-in_err-token-clause-ran : goal.returns-in_err-token-clause-ran
unfolding post_row
returns-in_err-token-clause-ran g c = value_exit _ _ c.from_residual-in_err-token.ensures.1 (then_on (λ nu v. text_from v (λ t. ask (Post t) (λ token. made token (λ u. value (Text u))))) c.in_ok-value.ensures.ran (runs_on (λ nu t. ask (Post t) (λ token. made token (λ u. value (Text u)))) c.in_ok-text.ensures.did (runs_left (λ nu u. value (Text u)) c.in_err-token.ensures.did)))

pub returns-clause-ran : goal.returns-clause-ran
unfolding post_row
returns-clause-ran g c = then_on (λ nu v. text_from v (λ t. ask (Post t) (λ token. made token (λ u. value (Text u))))) c.in_ok-value.ensures.ran (runs_on (λ nu t. ask (Post t) (λ token. made token (λ u. value (Text u)))) c.in_ok-text.ensures.did (runs_on (λ nu u. value (Text u)) c.in_ok-token.ensures.did ends_with))
