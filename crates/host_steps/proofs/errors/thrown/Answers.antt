use Rattle.std.proofs.Common.{subst}
use Rattle.turk_base.specs.Values as model
use Rattle.turk_base.specs.Prog.{Done, made}
use Rattle.turk_base.specs.Errors.{error_cell}
use Rattle.run_host.specs.Steps.{Takes}
use Rattle.run_host.proofs.Sequence.{ends_with}
use Rattle.run_host.proofs.Fits.{runs_on, runs_left}
use Rattle.host_steps.proofs.errors.thrown.Goals as goal

pub returns-in-Ok-clause-did : goal.returns-in-Ok-clause-did
returns-in-Ok-clause-did g c = runs_on (λ nu a. Done (model.Throw (model.Object a)))
    (subst (λ r. Takes (λ nu go. made c.args.message (λ t. error_cell (nu c.args.prototype) t go)) (λ nu. nu) r (g.H.Host.moment c.args.host.now) (g.H.Host.moment c.error_made.new.host)) c.in-Ok.is c.error_made.ensures.did) ends_with

pub returns-in-Err-clause-did : goal.returns-in-Err-clause-did
returns-in-Err-clause-did g c = runs_left (λ nu a. Done (model.Throw (model.Object a)))
    (subst (λ r. Takes (λ nu go. made c.args.message (λ t. error_cell (nu c.args.prototype) t go)) (λ nu. nu) r (g.H.Host.moment c.args.host.now) (g.H.Host.moment c.error_made.new.host)) c.in-Err.is c.error_made.ensures.did)
