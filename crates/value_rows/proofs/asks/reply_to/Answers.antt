use Rattle.turk_base.specs.Values.{Text}
use Rattle.turk_base.specs.Prog.{made, value}
use Rattle.run_host.proofs.Sequence.{ends_with}
use Rattle.run_host.proofs.Exits.{value_exit}
use Rattle.run_host.proofs.Fits.{runs_on, runs_left}
use Rattle.value_rows.proofs.asks.reply_to.Goals as goal

pub returns-in_err-reply-clause-ran : goal.returns-in_err-reply-clause-ran
returns-in_err-reply-clause-ran g c = value_exit _ _ c.from_residual.ensures.1 (runs_left (λ nu r. made r (λ t. value (Text t))) c.in_err-reply.ensures.did)

pub returns-in_err-text-clause-ran : goal.returns-in_err-text-clause-ran
returns-in_err-text-clause-ran g c = value_exit _ _ c.from_residual-in_err-text.ensures.1 (runs_on (λ nu r. made r (λ t. value (Text t))) c.in_ok-reply.ensures.did (runs_left (λ nu t. value (Text t)) c.in_err-text.ensures.did))

pub returns-clause-ran : goal.returns-clause-ran
returns-clause-ran g c = runs_on (λ nu r. made r (λ t. value (Text t))) c.in_ok-reply.ensures.did (runs_on (λ nu t. value (Text t)) c.in_ok-text.ensures.did ends_with)
