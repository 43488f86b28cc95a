use Rattle.js_tree.specs.Operate.{type_of}
use Rattle.run_host.proofs.Exits.{value_exit}
use Rattle.run_host.proofs.Fits.{runs_on, runs_left}
use Rattle.value_rows.proofs.types.type_at.Goals as goal

pub returns-in_err-value-clause-ran : goal.returns-in_err-value-clause-ran
returns-in_err-value-clause-ran g c = value_exit _ _ c.from_residual.ensures.1 (runs_left (λ nu v. type_of v) c.in_err-value.ensures.did)

pub returns-clause-ran : goal.returns-clause-ran
returns-clause-ran g c = runs_on (λ nu v. type_of v) c.in_ok-value.ensures.did c.type_of.ensures.ran
