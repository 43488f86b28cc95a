use Rattle.turk_base.specs.Prog.{Done}
use Rattle.run_host.proofs.Exits.{flow_exit, first_out}
use Rattle.tree_rows.proofs.Flows.{flow_on, flow_out, ends_as}
use Rattle.tree_rows.proofs.below.Below.finished.Goals as goal

pub returns-in_err-other-clause-ran : goal.returns-in_err-other-clause-ran
returns-in_err-other-clause-ran g c = λ o e. flow_exit _ _ c.from_residual.ensures.1 (first_out (λ nu _. Done (o nu)) _ c.in_err-other.ensures.ran)

pub returns-in-Normal-clause-ran : goal.returns-in-Normal-clause-ran
returns-in-Normal-clause-ran g c = λ o e. flow_on (λ nu _. Done (o nu)) _ c.in-Normal.is c.in_ok-other.ensures.ran (ends_as c.args.ended e)

pub returns-in_default-clause-ran : goal.returns-in_default-clause-ran
returns-in_default-clause-ran g c = λ o e. flow_out (λ nu _. Done (o nu)) _ c.in_default.not-Normal c.in_ok-other.ensures.ran
