use Rattle.turk_base.specs.Prog.{made}
use Rattle.run_host.proofs.Sequence.{leaves_on}
use Rattle.run_host.proofs.Exits.{takes_exit}
use Rattle.run_host.proofs.Fits.{takes_on}
use Rattle.value_rows.proofs.asks.posted.Goals as goal

pub returns-in_err-token-clause-did : goal.returns-in_err-token-clause-did
returns-in_err-token-clause-did g c = takes_exit _ _ c.from_residual.ensures.1 (leaves_on c.in_err-token.ensures.did (λ nu t. made t))

pub returns-clause-did : goal.returns-clause-did
returns-clause-did g c = takes_on _ (λ nu t. made t) (λ nu t. t) c.paid.result c.in_ok-token.ensures.did c.paid.ensures.did
